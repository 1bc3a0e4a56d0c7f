use Rattle.std.proofs.Common.{◌≡◌, ◌++◌, ◌-◌, ◌≤◌, length, drop}
use Rattle.sve_directive.specs.Pieces.{uncommented}
use Rattle.sve_directive.proofs.pieces.uncomment.Given as goal

abbrev pub invariant-pieces : goal.invariant-pieces
invariant-pieces l = record {
  within : l.n ≤ length l.text;
  same : l.out.items ++ uncommented (drop l.n l.text) ≡ uncommented l.text;
}

abbrev pub decreases-pieces : goal.decreases-pieces
decreases-pieces l = length l.text - l.n
