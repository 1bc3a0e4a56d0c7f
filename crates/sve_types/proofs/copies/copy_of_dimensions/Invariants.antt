use Rattle.std.proofs.Common.{◌≡◌, take}
use Rattle.sve_types.proofs.copies.copy_of_dimensions.Given as goal

abbrev pub invariant-dimensions : goal.invariant-dimensions
invariant-dimensions l = l.copies.items ≡ take l.range-index l.dimensions
