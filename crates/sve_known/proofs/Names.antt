-- The names of declarations, one by one.
use Rattle.std.proofs.Common.{arith, ◌≡◌, ◌≤◌, ◌+◌, ℕ, zero, suc, List, [], ◌∷◌, length, drop, slice_get, map, Some, refl, ap}
use Rattle.std.proofs.Math.Numerals.{add-one}
use Rattle.sve_table.specs.Tables.{with_item, with_items}
use Rattle.sve_scope.specs.declared.declared.Declared.{Declared}
use Rattle.sve_scope.specs.Declarations.{declared_name}
use Rattle.sve_scope.specs.Scopes.{itself}

next_there : (ds : List Declared) (i : ℕ) (d : Declared) → slice_get ds i ≡ Some d → drop i ds ≡ d ∷ drop (i + 1) ds
next_there ds i d h = rw (add-one i) (at ds i h)
  where
    at : (ds : List Declared) (i : ℕ) → slice_get ds i ≡ Some d → drop i ds ≡ d ∷ drop (suc i) ds
    at [] i e = cc
    at (x ∷ xs) zero e = cc
    at (x ∷ xs) (suc i) e = at xs i e

pub one_more : (names : List (List ℕ)) (ds : List Declared) (i : ℕ) (d : Declared) → slice_get ds i ≡ Some d
    → with_items itself names (map declared_name (drop i ds)) ≡ with_items itself (with_item itself names d.name) (map declared_name (drop (i + 1) ds))
one_more names ds i d h = ap (λ (rest : List Declared). with_items itself names (map declared_name rest)) (next_there ds i d h)

pub none_left : (ds : List Declared) (i : ℕ) → length ds ≤ i → drop i ds ≡ []
none_left [] zero h = refl
none_left [] (suc i) h = refl
none_left (x ∷ xs) zero h = absurd (omega arith)
none_left (x ∷ xs) (suc i) h = none_left xs i (omega arith)
