-- The declarations that stay, one by one.
use Rattle.std.proofs.Common.{arith, ◌≡◌, ◌≤◌, ◌+◌, ℕ, zero, suc, List, [], ◌∷◌, length, drop, slice_get, Some, refl, ap}
use Rattle.std.specs.List.{fold}
use Rattle.std.proofs.Math.Numerals.{add-one}
use Rattle.sve_scope.specs.declared.declared.Declared.{Declared}
use Rattle.sve_nested.specs.Blocks.{with_kept}

next_there : (ds : List Declared) (i : ℕ) (d : Declared) → slice_get ds i ≡ Some d → drop i ds ≡ d ∷ drop (i + 1) ds
next_there ds i d h = rw (add-one i) (at ds i h)
  where
    at : (ds : List Declared) (i : ℕ) → slice_get ds i ≡ Some d → drop i ds ≡ d ∷ drop (suc i) ds
    at [] i e = cc
    at (x ∷ xs) zero e = cc
    at (x ∷ xs) (suc i) e = at xs i e

pub next_kept : (entered : List (List ℕ)) (all ds : List Declared) (i : ℕ) (d : Declared) → slice_get ds i ≡ Some d
    → fold (with_kept entered) all (drop i ds) ≡ fold (with_kept entered) (with_kept entered all d) (drop (i + 1) ds)
next_kept entered all ds i d h = ap (fold (with_kept entered) all) (next_there ds i d h)

pub all_kept : (ds : List Declared) (i : ℕ) → length ds ≤ i → drop i ds ≡ []
all_kept [] zero h = refl
all_kept [] (suc i) h = refl
all_kept (x ∷ xs) zero h = absurd (omega arith)
all_kept (x ∷ xs) (suc i) h = all_kept xs i (omega arith)
