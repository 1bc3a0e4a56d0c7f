-- How many elements dimensions have (IEEE 1800-2017, 7.4.2).
use Rattle.std.specs.Prelude.{ℕ, ◌+◌, ◌*◌, ◌-ℤ◌, unsigned_abs, List, [], ◌∷◌}
use Rattle.sve_types.specs.declared.ty.Range.{Range}

-- the places from the leftmost to the rightmost, whichever of the two is greater
abbrev pub place_count : Range → ℕ
place_count r = unsigned_abs (r.left -ℤ r.right) + 1

-- the places of each dimension, multiplied
abbrev pub element_count : List Range → ℕ
element_count [] = 1
element_count (r ∷ rs) = place_count r * element_count rs
