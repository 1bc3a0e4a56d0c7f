use Rattle.std.proofs.Common.{◌≡◌, ◌+◌, ◌-◌, ◌≤◌, length, drop}
use Rattle.sve_directive.specs.Pieces.{rest_of_line}
use Rattle.sve_directive.proofs.pieces.rest_of_line_len.Given as goal

abbrev pub invariant-pieces : goal.invariant-pieces
invariant-pieces l = record {
  within : l.n ≤ length l.text;
  same : l.n + rest_of_line (drop l.n l.text) ≡ rest_of_line l.text;
}

abbrev pub decreases-pieces : goal.decreases-pieces
decreases-pieces l = length l.text - l.n
