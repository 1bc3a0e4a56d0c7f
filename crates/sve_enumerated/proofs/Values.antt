-- A name that has a value is within those that have one.
use Rattle.std.proofs.Common.{arith, ◌≡◌, ◌<◌, ℕ, zero, suc, List, [], ◌∷◌, length, is_some, true}
use Rattle.sve_value.specs.Vector.{Vector}
use Rattle.sve_enumerated.specs.Found.{value_next}

pub within : (vs : List (List ℕ × Vector)) (next : ℕ) (n : List ℕ) → is_some (value_next vs next n) ≡ true → next < length vs
within [] next n h = cc
within (v ∷ vs) zero n h = omega arith
within (v ∷ vs) (suc next) n h = omega (arith, within vs next n h)
