use Rattle.std.proofs.Common.{◌≡◌, map, take}
use Rattle.sve_types.specs.Dimensions.{place_count}
use Rattle.sve_types.proofs.equivalence.have_same_sizes.Given as goal

abbrev pub invariant-dimensions : goal.invariant-dimensions
invariant-dimensions l = map place_count (take l.i l.a) ≡ map place_count (take l.i l.b)
