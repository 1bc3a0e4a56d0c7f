-- What the definition of a key gives over the values that are told (own).
use Rattle.std.specs.Prelude.{ℕ, suc, ◌+◌, ◌-◌, ◌^◌, ◌≡◌, ◌⊎◌, min, cond, is_some, List, [], ◌∷◌, Option, Some, None, option_map}
use Rattle.std.specs.declared.cmp.Ordering.{Ordering}
use Rattle.std.specs.Ordering.{match_ordering}
pub use Rattle.sve_told.specs.Made.{Made, Needs, Done}

-- the count with one value more; it stands at the last number of 64 bits
abbrev pub next_count : ℕ → ℕ
next_count n = min (n + 1) (2 ^ 64 - 1)

-- the values without their stamps
abbrev pub values_of : {K V : Type 0} → (K → Option (V × ℕ)) → K → Option V
values_of given k = option_map (λ stamped. stamped.0) (given k)

-- what some told keys hold of a key; the first counts
abbrev pub value_in : {K V : Type 0} → (K → K → Ordering) → List (K × V) → K → Option V
value_in cmp [] k = None
value_in cmp (told ∷ others) k = match_ordering (cmp k told.0) (value_in cmp others k) (Some told.1) (value_in cmp others k)

-- the key is one of these
abbrev pub IsOneOf : {K : Type 0} → List K → K → Type 0
IsOneOf [] k = ⊥
IsOneOf (x ∷ xs) k = (k ≡ x) ⊎ IsOneOf xs k

-- how many of some keys are not told
abbrev pub untold : {K V : Type 0} → (K → Option V) → List K → ℕ
untold told [] = 0
untold told (k ∷ ks) = cond (is_some (told k)) (untold told ks) (suc (untold told ks))
