-- The names that pass a test among those so far, and one name more.
use Rattle.std.proofs.Common.{◌≡◌, ℕ, zero, suc, ◌+◌, Bool, true, false, cond, List, [], ◌∷◌, ◌++◌, take, Some, ap, ◌∙◌, add-one}
use Rattle.std.specs.List.{filter, slice_get}
use Rattle.sve_text.specs.Rows.{Row, is_there}

module _ (p : List ℕ → Bool) where
  with_next : (names : List (List ℕ)) (i : ℕ) (name : List ℕ) → slice_get names i ≡ Some name → filter p (take (suc i) names) ≡ filter p (take i names) ++ filter p (name ∷ [])
  with_next [] i name h = cc
  with_next (n ∷ names) zero name h = let is : n ≡ name = cc (h) in ap (λ (m : List ℕ). filter p (m ∷ [])) is
  with_next (n ∷ names) (suc i) name h =
      elim (p n) as (λ t. cond t (n ∷ filter p (take (suc i) names)) (filter p (take (suc i) names)) ≡ cond t (n ∷ filter p (take i names)) (filter p (take i names)) ++ filter p (name ∷ [])) [
        | true ↦ ap (λ (l : List (List ℕ)). n ∷ l) (with_next names i name h)
        | false ↦ with_next names i name h
      ]

pub next_name : (rows : List Row) (names : List (List ℕ)) (i : ℕ) (name : List ℕ) → slice_get names i ≡ Some name → filter (is_there rows) (take (i + 1) names) ≡ filter (is_there rows) (take i names) ++ filter (is_there rows) (name ∷ [])
next_name rows names i name h = ap (λ (k : ℕ). filter (is_there rows) (take k names)) (add-one i) ∙ with_next (is_there rows) names i name h
