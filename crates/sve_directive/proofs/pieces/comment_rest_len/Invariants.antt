use Rattle.std.proofs.Common.{◌≡◌, ◌+◌, drop, false}
use Rattle.sve_directive.specs.Pieces.{comment_rest}
use Rattle.sve_directive.proofs.pieces.comment_rest_len.Given as goal

abbrev pub invariant-bytes : goal.invariant-bytes
invariant-bytes l = l.i + comment_rest l.star (drop l.i l.text) ≡ comment_rest false l.text
