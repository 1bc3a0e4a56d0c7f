-- What stands in a list.
use Rattle.std.proofs.Common.{◌≡◌, ◌⊎◌, inl, inr, ℕ, zero, suc, ◌<◌, List, [], ◌∷◌, length, get_or, refl, sym, subst, arith}
use Rattle.std.specs.List.{Contains, flat_map}
use Rattle.std.proofs.lemmas.List.Elements.{Contains-append_cases, Contains-append_left, Contains-append_right}

pub nowhere : {X : Type 0} (x : X) → Contains [] x → ⊥
nowhere x c = let l : c.0 < 0 = c.1 in omega arith

pub first : {X : Type 0} (x : X) (xs : List X) → Contains (x ∷ xs) x
first x xs = (0, omega arith, refl)

pub later : {X : Type 0} (y : X) (xs : List X) (x : X) → Contains xs x → Contains (y ∷ xs) x
later y xs x c = (suc c.0, omega arith, c.2)

pub first_or_later : {X : Type 0} (y : X) (xs : List X) (x : X) → Contains (y ∷ xs) x → (y ≡ x) ⊎ Contains xs x
first_or_later y xs x c = at c.0 c.1 c.2
  where
    at : (k : ℕ) → k < length (y ∷ xs) → get_or (y ∷ xs) k x ≡ x → (y ≡ x) ⊎ Contains xs x
    at zero l e = inl e
    at (suc k) l e = inr (k, omega arith, e)

pub only : {X : Type 0} (y x : X) → Contains (y ∷ []) x → y ≡ x
only y x c = elim (first_or_later y [] x c) [ inl e ↦ e | inr r ↦ absurd (nowhere x r) ]

-- what stands in a list that items give stands in what one of them gives
pub some_gives : {X Y : Type 0} (f : X → List Y) (xs : List X) (y : Y) → Contains (flat_map f xs) y → (x : X) × Contains xs x × Contains (f x) y
some_gives f [] y c = absurd (nowhere y c)
some_gives f (x ∷ xs) y c = elim (Contains-append_cases (f x) (flat_map f xs) y c) [
  | inl a ↦ (x, first x xs, a)
  | inr b ↦ let s = some_gives f xs y b in (s.0, later x xs s.0 s.1, s.2)
]

pub given_by : {X Y : Type 0} (f : X → List Y) (xs : List X) (x : X) (y : Y) → Contains xs x → Contains (f x) y → Contains (flat_map f xs) y
given_by f [] x y c d = absurd (nowhere x c)
given_by {X = X} f (z ∷ xs) x y c d = elim (first_or_later z xs x c) [
  | inl e ↦ Contains-append_left (f z) (flat_map f xs) y (subst (λ (w : X). Contains (f w) y) (sym e) d)
  | inr r ↦ Contains-append_right (f z) (flat_map f xs) y (given_by f xs x y r d)
]
