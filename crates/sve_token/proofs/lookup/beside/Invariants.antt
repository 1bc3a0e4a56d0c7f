use Rattle.std.proofs.Common.{◌≡◌, drop}
use Rattle.sve_token.specs.Keywords.{spelled_so}
use Rattle.sve_token.proofs.lookup.beside.Given as goal

abbrev pub invariant-loop-i : goal.invariant-loop-i
invariant-loop-i l = spelled_so (drop l.i l.kinds) l.bytes ≡ spelled_so l.kinds l.bytes
