-- Keys of a list, and lists one behind another.
use Rattle.std.proofs.Common.{◌≡◌, ℕ, zero, suc, ◌+◌, ◌<◌, ◌≤◌, ◌⊎◌, List, [], ◌∷◌, ◌++◌, inl, inr, refl, ap, arith, length, get_or}
use Rattle.std.proofs.Props.{props}
use mathlib.Core.Logic.{∥∥₁_elim}
use Rattle.sve_store.specs.Made.{IsOneOf}
use Rattle.sve_ask.specs.Gains.{AreDistinct}

pub append_assoc : {A : Type 0} (xs ys zs : List A) → (xs ++ ys) ++ zs ≡ xs ++ (ys ++ zs)
append_assoc [] ys zs = refl
append_assoc (x ∷ xs) ys zs = ap (λ l. x ∷ l) (append_assoc xs ys zs)

pub append_none : {A : Type 0} (xs : List A) → xs ++ [] ≡ xs
append_none [] = refl
append_none (x ∷ xs) = ap (λ l. x ∷ l) (append_none xs)

pub length_both : {A : Type 0} (xs ys : List A) → length (xs ++ ys) ≡ length xs + length ys
length_both [] ys = omega arith
length_both (x ∷ xs) ys = let e = length_both xs ys in omega (arith, e)

pub one_at : {A : Type 0} (xs : List A) (i : ℕ) (x : A) → i < length xs → x ≡ get_or xs i x → IsOneOf xs x
one_at [] i x lt is = absurd (omega (arith, lt))
one_at (y ∷ xs) zero x lt is = inl is
one_at (y ∷ xs) (suc i) x lt is = inr (one_at xs i x (omega (arith, lt)) is)

pub one_of_push : {A : Type 0} (xs : List A) (y x : A) → IsOneOf (xs ++ y ∷ []) x → IsOneOf xs x ⊎ (x ≡ y)
one_of_push [] y x (inl e) = inr e
one_of_push [] y x (inr e) = absurd e
one_of_push (z ∷ xs) y x (inl e) = inl (inl e)
one_of_push (z ∷ xs) y x (inr e) = elim (one_of_push xs y x e) [ inl a ↦ inl (inr a) | inr a ↦ inr a ]

pub one_earlier : {A : Type 0} (xs : List A) (y x : A) → IsOneOf xs x → IsOneOf (xs ++ y ∷ []) x
one_earlier [] y x e = absurd e
one_earlier (z ∷ xs) y x (inl e) = inl e
one_earlier (z ∷ xs) y x (inr e) = inr (one_earlier xs y x e)

pub one_last : {A : Type 0} (xs : List A) (y : A) → IsOneOf (xs ++ y ∷ []) y
one_last [] y = inl refl
one_last (z ∷ xs) y = inr (one_last xs y)

pub one_of_both : {A : Type 0} (xs ys : List A) (x : A) → IsOneOf (xs ++ ys) x → IsOneOf xs x ⊎ IsOneOf ys x
one_of_both [] ys x e = inr e
one_of_both (z ∷ xs) ys x (inl e) = inl (inl e)
one_of_both (z ∷ xs) ys x (inr e) = elim (one_of_both xs ys x e) [ inl a ↦ inl (inr a) | inr a ↦ inr a ]

pub one_behind : {A : Type 0} (xs ys : List A) (x : A) → IsOneOf ys x → IsOneOf (xs ++ ys) x
one_behind [] ys x e = e
one_behind (z ∷ xs) ys x e = inr (one_behind xs ys x e)

pub distinct_both : {A : Type 0} (xs ys : List A) → AreDistinct xs → AreDistinct ys → ((x : A) → IsOneOf xs x → IsOneOf ys x → ⊥) → AreDistinct (xs ++ ys)
distinct_both [] ys d e apart = e
distinct_both (x ∷ xs) ys d e apart = (λ i. elim (one_of_both xs ys x i) [ inl a ↦ d.0 a | inr a ↦ apart x (inl refl) a ], distinct_both xs ys d.1 e (λ y i j. apart y (inr i) j))

pub lower_or_not : (a n : ℕ) → (a < n) ⊎ (n ≤ a)
lower_or_not a zero = inr (omega arith)
lower_or_not zero (suc n) = inl (omega arith)
lower_or_not (suc a) (suc n) = elim (lower_or_not a n) [ inl l ↦ inl (omega (arith, l)) | inr l ↦ inr (omega (arith, l)) ]

-- an order follows from a fact of which only a proof is known to exist
pub less_by : {P : Type 0} (a b : ℕ) → ∥ P ∥₁ → (P → a < b) → a < b
less_by a b fact f = ∥∥₁_elim fact (hlevel props) f
