-- Lists by their places: what holds at each of them once one is replaced or added.
use Rattle.std.proofs.Common.{◌≡◌, ◌≢◌, ℕ, zero, suc, ◌≤◌, ◌<◌, List, [], ◌∷◌, ◌++◌, length, set, refl, sym, ◌∙◌, subst, ⊎_elim, arith, Some, slice_get, replicate}
use Rattle.std.specs.Prelude.{slice_index}
use mathlib.Core.Option.{some, some-ne-none, some-injective}
use native.Mathlib.Decide.{ℕ_discrete}
use lib.ListN.{get_elem?}
use Rattle.atomic_table.proofs.Lists.{at_set, set_here, set_else}

module _ {A : Type 0} where
  pub is_within : (l : List A) (i : ℕ) (a : A) → get_elem? l i ≡ some a → i < length l
  is_within [] i a e = absurd (some-ne-none a (sym e))
  is_within (x ∷ xs) zero a e = omega arith
  is_within (x ∷ xs) (suc i) a e = omega (arith, is_within xs i a e)

  pub one_at : (l : List A) (i : ℕ) (a b : A) → get_elem? l i ≡ some a → get_elem? l i ≡ some b → a ≡ b
  one_at l i a b e f = some-injective a b (sym e ∙ f)

  -- where two values differ, their places do
  pub apart : (l : List A) (i j : ℕ) (a b : A) → get_elem? l i ≡ some a → get_elem? l j ≡ some b → a ≢ b → i ≢ j
  apart l i j a b e f differ same = differ (one_at l j a b (subst (λ (k : ℕ). get_elem? l k ≡ some a) same e) f)

  pub each_set : (P : ℕ → A → Type 0) (l : List A) (i : ℕ) (a : A) → P i a → ((j : ℕ) (b : A) → j ≢ i → get_elem? l j ≡ some b → P j b)
      → (j : ℕ) (b : A) → get_elem? (set l i a) j ≡ some b → P j b
  each_set P l i a here others j b e = ⊎_elim
      (λ (t : (j ≡ i) × (a ≡ b)). subst (λ (k : ℕ). P k b) (sym t.0) (subst (P i) t.1 here))
      (λ (t : (j ≢ i) × (get_elem? l j ≡ some b)). others j b t.0 t.1)
      (at_set l i j a b e)

  pub each_push : (P : ℕ → A → Type 0) (l : List A) (a : A) → P (length l) a → ((j : ℕ) (b : A) → get_elem? l j ≡ some b → P j b)
      → (j : ℕ) (b : A) → get_elem? (l ++ a ∷ []) j ≡ some b → P j b
  each_push P [] a here others zero b e = subst (P zero) (some-injective a b e) here
  each_push P [] a here others (suc j) b e = absurd (some-ne-none b (sym e))
  each_push P (x ∷ xs) a here others zero b e = others zero b e
  each_push P (x ∷ xs) a here others (suc j) b e = each_push (λ k. P (suc k)) xs a here (λ k c f. others (suc k) c f) j b e

  -- a value that is put at one place stays where it was
  pub still_at : (l : List A) (i j : ℕ) (a : A) → get_elem? l j ≡ some a → get_elem? (set l i a) j ≡ some a
  still_at l i j a e = by (ℕ_discrete j i)
    where
      by : Dec (j ≡ i) → get_elem? (set l i a) j ≡ some a
      by (yes same) = subst (λ (k : ℕ). get_elem? (set l i a) k ≡ some a) (sym same) (set_here l i a (subst (λ (k : ℕ). k < length l) same (is_within l j a e)))
      by (no differ) = set_else l i j a differ ∙ e

  pub slice_get_between : (xs ys : List A) (x : A) → slice_get ((xs ++ x ∷ []) ++ ys) (length xs) ≡ Some x
  slice_get_between [] ys x = refl
  slice_get_between (y ∷ xs) ys x = slice_get_between xs ys x

-- of zeros each place has 0, also the places behind the last
pub zero_at : (count i : ℕ) → slice_index (replicate count 0) i ≡ 0
zero_at zero i = refl
zero_at (suc count) zero = refl
zero_at (suc count) (suc i) = zero_at count i

-- a number that is replaced by one that is not below it
pub set_rises : (l : List ℕ) (i n : ℕ) → slice_index l i ≤ n → (j : ℕ) → slice_index l j ≤ slice_index (set l i n) j
set_rises [] i n le j = omega arith
set_rises (x ∷ xs) zero n le zero = le
set_rises (x ∷ xs) zero n le (suc j) = omega arith
set_rises (x ∷ xs) (suc i) n le zero = omega arith
set_rises (x ∷ xs) (suc i) n le (suc j) = set_rises xs i n le j

-- numbers that are bounded place by place, and one that is replaced within its bound
pub set_below : (bound : ℕ → ℕ) (l : List ℕ) (i n : ℕ) → n ≤ bound i → ((j : ℕ) → slice_index l j ≤ bound j) → (j : ℕ) → slice_index (set l i n) j ≤ bound j
set_below bound [] i n le below j = below j
set_below bound (x ∷ xs) zero n le below zero = le
set_below bound (x ∷ xs) zero n le below (suc j) = below (suc j)
set_below bound (x ∷ xs) (suc i) n le below zero = below zero
set_below bound (x ∷ xs) (suc i) n le below (suc j) = set_below (λ k. bound (suc k)) xs i n le (λ k. below (suc k)) j

pub first_number : (l : List ℕ) (n : ℕ) → get_elem? l 0 ≡ some n → slice_index l 0 ≡ n
first_number [] n e = absurd (some-ne-none n (sym e))
first_number (m ∷ ms) n e = some-injective m n e
