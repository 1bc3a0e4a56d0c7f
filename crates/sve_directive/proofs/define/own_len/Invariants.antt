use Rattle.std.proofs.Common.{◌≡◌, ◌+◌, drop, false}
use Rattle.sve_directive.specs.Define.{own_length}
use Rattle.sve_directive.proofs.define.own_len.Given as goal

abbrev pub invariant-bytes : goal.invariant-bytes
invariant-bytes l = l.i + own_length l.slash (drop l.i l.text) ≡ own_length false l.text
