-- The candidates from a place on.
use Rattle.std.proofs.Common.{arith, ◌≡◌, ◌≤◌, ◌+◌, ℕ, zero, suc, Bool, true, false, List, [], ◌∷◌, length, drop, slice_get, is_some, None, Some, refl, nat_eq, if◌then◌else◌}
use Rattle.std.proofs.Math.Numerals.{add-one}
use Rattle.std.specs.Cmp.Lexicographic.{pointwise}
use Rattle.sve_table.specs.Tables.{item_of}
use Rattle.sve_table.proofs.Added.{same_name}
use Rattle.sve_scope.specs.declared.spot.Spot.{Spot}
use Rattle.sve_scope.specs.Imports.{WildcardImport}
use Rattle.sve_scope.specs.Spots.{stands_before}
use Rattle.sve_scope.specs.Scopes.{itself}
use Rattle.sve_scope.specs.Lookup.{candidate, candidates}

pub split_there : {X : Type 0} (xs : List X) (i : ℕ) (x : X) → slice_get xs i ≡ Some x → drop i xs ≡ x ∷ drop (suc i) xs
split_there [] i x h = cc
split_there (y ∷ ys) zero x h = cc
split_there (y ∷ ys) (suc i) x h = split_there ys i x h

pub none_behind : {X : Type 0} (xs : List X) (i : ℕ) → length xs ≤ i → drop i xs ≡ []
none_behind [] zero h = refl
none_behind [] (suc i) h = refl
none_behind (y ∷ ys) zero h = absurd (omega arith)
none_behind (y ∷ ys) (suc i) h = none_behind ys i (omega arith)

-- a name that is found is the one that is sought
name_is : (ns : List (List ℕ)) (n m : List ℕ) → item_of itself n ns ≡ Some m → m ≡ n
name_is [] n m h = cc
name_is (k ∷ ks) n m h =
    elim (pointwise nat_eq n k) as (λ b. pointwise nat_eq n k ≡ b → m ≡ n) [
      | true ↦ λ e. let same = same_name n k e in let t : Some k ≡ Some m = rw e at h in cc
      | false ↦ λ e. name_is ks n m (rw e at h)
    ] refl

module _ (place : Spot) (n : List ℕ) where
  one_more : (ws : List WildcardImport) (i : ℕ) (w : WildcardImport) (b : Bool) → slice_get ws i ≡ Some w → is_some (candidate place n w) ≡ b
      → candidates place n (drop i ws) ≡ (if b then w ∷ candidates place n (drop (i + 1) ws) else candidates place n (drop (i + 1) ws))
  one_more ws i w b h e = rw (add-one i, split_there ws i w h, e) refl

  pub passes_by : (ws : List WildcardImport) (i : ℕ) (w : WildcardImport) → slice_get ws i ≡ Some w → candidate place n w ≡ None
      → candidates place n (drop i ws) ≡ candidates place n (drop (i + 1) ws)
  passes_by ws i w h e = one_more ws i w false h (rw e refl)

  pub begins : (ws : List WildcardImport) (i : ℕ) (w : WildcardImport) (m : List ℕ) → slice_get ws i ≡ Some w → candidate place n w ≡ Some m
      → candidates place n (drop i ws) ≡ w ∷ candidates place n (drop (i + 1) ws)
  begins ws i w m h e = one_more ws i w true h (rw e refl)

  pub none_left : (ws : List WildcardImport) (i : ℕ) → length ws ≤ i → candidates place n (drop i ws) ≡ []
  none_left ws i h = rw (none_behind ws i h) refl

  pub candidate_is : (w : WildcardImport) (m : List ℕ) → candidate place n w ≡ Some m → m ≡ n
  candidate_is w m h =
      elim (stands_before w.at place) as (λ b. stands_before w.at place ≡ b → m ≡ n) [
        | true ↦ λ e. name_is w.names n m (rw e at h)
        | false ↦ λ e. let t : None ≡ Some m = rw e at h in cc
      ] refl
