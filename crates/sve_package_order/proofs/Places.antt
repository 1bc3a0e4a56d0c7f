-- Lists by their places.
use Rattle.std.proofs.Common.{arith, ◌≡◌, ◌<◌, ◌≤◌, ◌+◌, ℕ, zero, suc, true, false, List, [], ◌∷◌, ◌++◌, length, take, drop, slice_get, slice_index, None, Some, refl, ap, nat_eq, eq-eqb, ◌⊎◌, inl, inr}
use Rattle.std.proofs.lemmas.Bool.{eqb-true}
use Rattle.std.proofs.Math.ListN.{set}
use Rattle.std.proofs.Math.Numerals.{add-one}

pub get_set_same : {X : Type 0} (xs : List X) (i : ℕ) (y : X) → i < length xs → slice_get (set xs i y) i ≡ Some y
get_set_same [] i y h = absurd (omega arith)
get_set_same (x ∷ xs) zero y h = refl
get_set_same (x ∷ xs) (suc i) y h = get_set_same xs i y (omega arith)

pub get_set_other : {X : Type 0} (xs : List X) (i j : ℕ) (y : X) → (j ≡ i → ⊥) → slice_get (set xs i y) j ≡ slice_get xs j
get_set_other [] i j y n = refl
get_set_other (x ∷ xs) zero zero y n = absurd (n refl)
get_set_other (x ∷ xs) zero (suc j) y n = refl
get_set_other (x ∷ xs) (suc i) zero y n = refl
get_set_other (x ∷ xs) (suc i) (suc j) y n = get_set_other xs i j y (λ e. n (ap suc e))

-- two places are one, or not
pub one_or_other : (j i : ℕ) → (j ≡ i) ⊎ (j ≡ i → ⊥)
one_or_other j i =
    elim (nat_eq j i) as (λ b. nat_eq j i ≡ b → (j ≡ i) ⊎ (j ≡ i → ⊥)) [
      | true ↦ λ e. inl (eqb-true j i e)
      | false ↦ λ e. inr (λ s. let t = eq-eqb j i s in cc)
    ] refl

-- lists with the same items at all places are one
pub same_places : {X : Type 0} (xs ys : List X) → ((k : ℕ) → slice_get xs k ≡ slice_get ys k) → xs ≡ ys
same_places [] [] h = refl
same_places [] (y ∷ ys) h = let t : None ≡ Some y = h 0 in cc
same_places (x ∷ xs) [] h = let t : Some x ≡ None = h 0 in cc
same_places (x ∷ xs) (y ∷ ys) h =
    let t : Some x ≡ Some y = h 0 in
    let rest : xs ≡ ys = same_places xs ys (λ k. h (suc k)) in
    cc

-- a list is what stands before a place, the item there, and the rest
pub parted : (xs : List ℕ) (i : ℕ) → i < length xs → xs ≡ take i xs ++ slice_index xs i ∷ drop (i + 1) xs
parted xs i h = rw (add-one i) (at xs i h)
  where
    at : (ys : List ℕ) (k : ℕ) → k < length ys → ys ≡ take k ys ++ slice_index ys k ∷ drop (suc k) ys
    at [] k l = absurd (omega arith)
    at (y ∷ ys) zero l = refl
    at (y ∷ ys) (suc k) l = ap (λ r. y ∷ r) (at ys k (omega arith))

pub all_taken : {X : Type 0} (xs : List X) (i : ℕ) → length xs ≤ i → take i xs ≡ xs
all_taken [] zero h = refl
all_taken [] (suc i) h = refl
all_taken (x ∷ xs) zero h = absurd (omega arith)
all_taken (x ∷ xs) (suc i) h = ap (λ r. x ∷ r) (all_taken xs i (omega arith))
