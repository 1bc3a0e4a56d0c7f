-- What was handed on so far, and what is left, is all that is used.
use Rattle.std.proofs.Common.{◌≡◌, drop}
use Rattle.std.specs.List.{flat_map, fold}
use Rattle.sve_use.specs.LeftSides.{left_side_uses}
use Rattle.sve_simple_use.proofs.simple.names_in_sides.Given as goal

abbrev pub invariant-sides : goal.invariant-sides
invariant-sides g l = fold g.R.Resolver.after l.names (flat_map left_side_uses (drop l.side-index l.sides)) ≡ fold g.R.Resolver.after l.fn.names (flat_map left_side_uses l.sides)
