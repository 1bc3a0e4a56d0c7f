-- What was handed on so far, and what the sides that are left use, is all that they use.
use Rattle.std.proofs.Common.{◌≡◌, drop}
use Rattle.std.specs.List.{flat_map, fold}
use Rattle.sve_use.specs.LeftSides.{left_side_uses}
use Rattle.sve_use.proofs.side.+left.Given as goal

abbrev pub invariant-names_in_left_sides-sides : goal.invariant-names_in_left_sides-sides
invariant-names_in_left_sides-sides g l = fold g.R.Resolver.after l.names (flat_map left_side_uses (drop l.side-index l.sides)) ≡ fold g.R.Resolver.after l.fn.names (flat_map left_side_uses l.sides)
