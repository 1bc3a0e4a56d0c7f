-- Tokens in order, some of which stand in front of another.
use Rattle.std.proofs.Common.{ℕ, ◌-◌, ◌<◌, ◌≤◌, ◌≡◌, false, List, length, get_or, nat_eq, Some, None, ◌∙◌, refl, arith, ne_eqb, eq-eqb, ⊎_elim}
use Rattle.std.specs.List.{All}
use Rattle.std.specs.List.Sorted.{IsNonDecreasingBy, IsPartitionPoint}
use Rattle.std.specs.FinSet.{contains-from_list_nat}
use Rattle.std.proofs.lemmas.Bool.{cases_lt}
use Rattle.std.proofs.lemmas.List.{get_or_default}
use Rattle.std.proofs.lemmas.List.Folds.{list_any_none, list_any_at}
use Rattle.sve_design_kinds.specs.Beginnings.{last_before, tokens_of}
use Rattle.sve_design_kinds.proofs.Last.{last_is, none_before}

module _ (xs : List ℕ) (token : ℕ) where
  -- none does
  pub none_in_front : All (λ y. token ≤ y) xs → None ≡ last_before (tokens_of xs) token
  none_in_front behind = none_before (tokens_of xs) token (λ k before.
      contains-from_list_nat xs k ∙ list_any_none (λ y. nat_eq y k) xs (λ j d within.
      let behind_it : token ≤ get_or xs j d = behind j d within in ne_eqb _ _ (omega arith)))

  -- each one stands at the last of those that do, in front of it, or not in front
  no_other : (i : ℕ) → 0 < i → i ≤ length xs → IsNonDecreasingBy (λ y. y) xs → IsPartitionPoint (λ y. y < token) (λ y. token ≤ y) xs i → (d k : ℕ) → get_or xs (i - 1) d < k → k < token → (j e : ℕ) → j < length xs → nat_eq (get_or xs j e) k ≡ false
  no_other i some most rise parts d k behind before j e within = ⊎_elim
      (λ front. let same : get_or xs (i - 1) d ≡ get_or xs (i - 1) e = get_or_default xs (i - 1) d e (omega arith) in let most_last : get_or xs j e ≤ get_or xs (i - 1) e = rise j (i - 1) e (omega arith) (omega arith) in ne_eqb _ _ (omega arith))
      (λ back. let behind_it : token ≤ get_or xs j e = parts.1 j e back within in ne_eqb _ _ (omega arith))
      (cases_lt j i)

  -- the last of those that do
  pub last_in_front : (i : ℕ) → 0 < i → i ≤ length xs → IsNonDecreasingBy (λ y. y) xs → IsPartitionPoint (λ y. y < token) (λ y. token ≤ y) xs i → (d : ℕ) → Some (get_or xs (i - 1) d) ≡ last_before (tokens_of xs) token
  last_in_front i some most rise parts d =
      let last : ℕ = get_or xs (i - 1) d in
      last_is (tokens_of xs) token last
      (parts.0 (i - 1) d (omega arith) (omega arith))
      (contains-from_list_nat xs last ∙ list_any_at (λ y. nat_eq y last) xs (i - 1) d (omega arith) (eq-eqb last last refl))
      (λ k behind before. contains-from_list_nat xs k ∙ list_any_none (λ y. nat_eq y k) xs (no_other i some most rise parts d k behind before))
