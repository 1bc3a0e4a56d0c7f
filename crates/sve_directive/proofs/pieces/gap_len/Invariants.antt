use Rattle.std.proofs.Common.{◌≡◌, ◌+◌, ◌-◌, ◌≤◌, length, drop}
use Rattle.sve_directive.specs.Pieces.{gap_length}
use Rattle.sve_directive.proofs.pieces.gap_len.Given as goal

abbrev pub invariant-pieces : goal.invariant-pieces
invariant-pieces l = record {
  within : l.n ≤ length l.text;
  same : l.n + gap_length (drop l.n l.text) ≡ gap_length l.text;
}

abbrev pub decreases-pieces : goal.decreases-pieces
decreases-pieces l = length l.text - l.n
