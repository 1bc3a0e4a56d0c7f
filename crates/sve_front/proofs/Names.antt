-- The names of units among those so far, and one name more.
use Rattle.std.proofs.Common.{◌≡◌, ℕ, zero, suc, ◌+◌, true, false, cond, List, [], ◌∷◌, ◌++◌, take, Some, sym, ap, ◌∙◌, ◌<◌, length, drop, get_or, add-one}
use Rattle.std.specs.List.{filter, slice_get}
use Rattle.std.proofs.Math.Seq.{drop-cons}
use Rattle.sve_front.specs.Units.{is_unit_name}

with_next : (names : List (List ℕ)) (i : ℕ) (name : List ℕ) → slice_get names i ≡ Some name → filter is_unit_name (take (suc i) names) ≡ filter is_unit_name (take i names) ++ filter is_unit_name (name ∷ [])
with_next [] i name h = cc
with_next (n ∷ names) zero name h = let is : n ≡ name = cc (h) in ap (λ (m : List ℕ). filter is_unit_name (m ∷ [])) is
with_next (n ∷ names) (suc i) name h =
    elim (is_unit_name n) as (λ t. cond t (n ∷ filter is_unit_name (take (suc i) names)) (filter is_unit_name (take (suc i) names)) ≡ cond t (n ∷ filter is_unit_name (take i names)) (filter is_unit_name (take i names)) ++ filter is_unit_name (name ∷ [])) [
      | true ↦ ap (λ (l : List (List ℕ)). n ∷ l) (with_next names i name h)
      | false ↦ with_next names i name h
    ]

pub next_name : (names : List (List ℕ)) (i : ℕ) (name : List ℕ) → slice_get names i ≡ Some name → filter is_unit_name (take (i + 1) names) ≡ filter is_unit_name (take i names) ++ filter is_unit_name (name ∷ [])
next_name names i name h = ap (λ (k : ℕ). filter is_unit_name (take k names)) (add-one i) ∙ with_next names i name h

-- the names from a place on
pub name_then : (names : List (List ℕ)) (i : ℕ) (name : List ℕ) → i < length names → name ≡ get_or names i name → drop i names ≡ name ∷ drop (i + 1) names
name_then names i name h is = drop-cons names i name h ∙ ap (λ (n : List ℕ). n ∷ drop (suc i) names) (sym is) ∙ ap (λ (k : ℕ). name ∷ drop k names) (sym (add-one i))
