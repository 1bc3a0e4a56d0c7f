-- A table has of each key the value that was told first, also once one more is told.
use Rattle.std.proofs.Common.{◌≡◌, List, [], ◌∷◌, ◌++◌, Option, Some, None, refl, sym, ap, ◌∙◌}
use Rattle.std.specs.Prelude.{option_map}
use Rattle.std.specs.declared.cmp.Ordering.{Ordering}
use Rattle.std.specs.declared.cmp.Ordering.TheVariants.{Less, Equal, Greater}
use Rattle.std.specs.Ordering.{match_ordering}
use Rattle.std.specs.Cmp.{IsTotalOrder}
use Rattle.std.proofs.lemmas.Cmp.{tied_back}
use Rattle.sve_memo.specs.Memos.{MemoValue, memo_in, put_memo}
use Rattle.sve_store.specs.Made.{value_in}
use Rattle.sve_store.specs.Noted.{told_values, IsTableOf, entered_by, entered}
use Rattle.sve_store.proofs.Lookups.{value-last, value-stays}

pub told_values-push : {K V : Type 0} (told : List (MemoValue K V)) (memo : MemoValue K V) → told_values (told ++ memo ∷ []) ≡ told_values told ++ ((memo.finding.key, memo.finding.value) ∷ [])
told_values-push [] memo = refl
told_values-push (x ∷ told) memo = ap (λ l. (x.finding.key, x.finding.value) ∷ l) (told_values-push told memo)

module _ {K V : Type 0} (cmp : K → K → Ordering) (total : IsTotalOrder cmp) where
  -- ---- keys that compare Equal

  same_value : (a b : K) → cmp a b ≡ Equal → (told : List (K × V)) → value_in cmp told a ≡ value_in cmp told b
  same_value a b same [] = refl
  same_value a b same (x ∷ told) = λ i. match_ordering (total.congr a b x.0 same i) (same_value a b same told i) (Some x.1) (same_value a b same told i)

  passed : (k : K) (x : MemoValue K V) (rest : List (MemoValue K V)) (o : Ordering) → cmp k x.finding.key ≡ o → (o ≡ Equal → ⊥) → memo_in cmp (x ∷ rest) k ≡ memo_in cmp rest k
  passed k x rest Less at not = rw at
  passed k x rest Equal at not = absurd (not refl)
  passed k x rest Greater at not = rw at

  -- ---- a memo that is put into a table

  here_by : (n x : MemoValue K V) (k : K) (memos rest : List (MemoValue K V)) → cmp k n.finding.key ≡ Equal → memo_in cmp rest k ≡ Some n → (o : Ordering) → cmp n.finding.key x.finding.key ≡ o
      → memo_in cmp (match_ordering o (n ∷ x ∷ memos) (n ∷ memos) (x ∷ rest)) k ≡ Some n
  here_by n x k memos rest same later Less at = rw same
  here_by n x k memos rest same later Equal at = rw same
  here_by n x k memos rest same later Greater at = rw (total.congr k n.finding.key x.finding.key same ∙ at) later

  put_here : (n : MemoValue K V) (k : K) → cmp k n.finding.key ≡ Equal → (memos : List (MemoValue K V)) → memo_in cmp (put_memo cmp n memos) k ≡ Some n
  put_here n k same [] = rw same
  put_here n k same (x ∷ memos) = here_by n x k memos (put_memo cmp n memos) same (put_here n k same memos) (cmp n.finding.key x.finding.key) refl

  elsewhere_by : (n x : MemoValue K V) (k : K) (memos rest : List (MemoValue K V)) → (cmp k n.finding.key ≡ Equal → ⊥) → memo_in cmp rest k ≡ memo_in cmp memos k → (o : Ordering) → cmp n.finding.key x.finding.key ≡ o
      → memo_in cmp (match_ordering o (n ∷ x ∷ memos) (n ∷ memos) (x ∷ rest)) k ≡ memo_in cmp (x ∷ memos) k
  elsewhere_by n x k memos rest other later Less at = passed k n (x ∷ memos) (cmp k n.finding.key) refl other
  elsewhere_by n x k memos rest other later Equal at =
      passed k n memos (cmp k n.finding.key) refl other
      ∙ sym (passed k x memos (cmp k x.finding.key) refl (λ same. other (total.congr k x.finding.key n.finding.key same ∙ tied_back total n.finding.key x.finding.key at)))
  elsewhere_by n x k memos rest other later Greater at = ap (λ (o : Option (MemoValue K V)). match_ordering (cmp k x.finding.key) o (Some x) o) later

  put_elsewhere : (n : MemoValue K V) (k : K) → (cmp k n.finding.key ≡ Equal → ⊥) → (memos : List (MemoValue K V)) → memo_in cmp (put_memo cmp n memos) k ≡ memo_in cmp memos k
  put_elsewhere n k other [] = passed k n [] (cmp k n.finding.key) refl other
  put_elsewhere n k other (x ∷ memos) = elsewhere_by n x k memos (put_memo cmp n memos) other (put_elsewhere n k other memos) (cmp n.finding.key x.finding.key) refl

  -- ---- a value that is told behind others

  other_alone : (o : Ordering) (v : V) → (o ≡ Equal → ⊥) → match_ordering o None (Some v) None ≡ None
  other_alone Less v not = refl
  other_alone Equal v not = absurd (not refl)
  other_alone Greater v not = refl

  told_elsewhere : (one : K × V) (k : K) → (cmp k one.0 ≡ Equal → ⊥) → (told : List (K × V)) → value_in cmp (told ++ one ∷ []) k ≡ value_in cmp told k
  told_elsewhere one k other [] = other_alone (cmp k one.0) one.1 other
  told_elsewhere one k other (x ∷ told) = ap (λ (o : Option V). match_ordering (cmp k x.0) o (Some x.1) o) (told_elsewhere one k other told)

  module _ (memo : MemoValue K V) (told table : List (MemoValue K V)) (is : IsTableOf cmp told table) (k : K) where
    abbrev value : Option (MemoValue K V) → Option V
    value found = option_map (λ (m : MemoValue K V). m.finding.value) found

    abbrev one : K × V
    one = (memo.finding.key, memo.finding.value)

    -- what is told of another key, and what the table has of it, stay
    elsewhere : (found : Option (MemoValue K V)) → (cmp k memo.finding.key ≡ Equal → ⊥) → value_in cmp (told_values told ++ one ∷ []) k ≡ value (memo_in cmp (entered_by cmp memo table found) k)
    elsewhere (Some earlier) other = told_elsewhere one k other (told_values told) ∙ is k
    elsewhere None other = told_elsewhere one k other (told_values told) ∙ is k ∙ ap value (sym (put_elsewhere memo k other table))

    -- a key that was told has its first value still, and one that was not has the new one
    here : (found : Option (MemoValue K V)) → memo_in cmp table memo.finding.key ≡ found → cmp k memo.finding.key ≡ Equal → value_in cmp (told_values told ++ one ∷ []) k ≡ value (memo_in cmp (entered_by cmp memo table found) k)
    here (Some earlier) at same =
        let has : value_in cmp (told_values told) k ≡ Some earlier.finding.value = same_value k memo.finding.key same (told_values told) ∙ is memo.finding.key ∙ ap value at in
        value-stays cmp one k (told_values told) earlier.finding.value has ∙ sym has ∙ is k
    here None at same =
        let not : value_in cmp (told_values told) k ≡ None = same_value k memo.finding.key same (told_values told) ∙ is memo.finding.key ∙ ap value at in
        value-last cmp one k (told_values told) not ∙ ap (λ (o : Ordering). match_ordering o None (Some memo.finding.value) None) same ∙ ap value (sym (put_here memo k same table))

    by : (o : Ordering) → cmp k memo.finding.key ≡ o → value_in cmp (told_values told ++ one ∷ []) k ≡ value (memo_in cmp (entered cmp memo table) k)
    by Less at = elsewhere (memo_in cmp table memo.finding.key) (λ same. absurd (let both : Less ≡ Equal = sym at ∙ same in cc))
    by Equal at = here (memo_in cmp table memo.finding.key) refl at
    by Greater at = elsewhere (memo_in cmp table memo.finding.key) (λ same. absurd (let both : Greater ≡ Equal = sym at ∙ same in cc))

  -- the table with one memo more is that of what is told with it
  pub enters : (memo : MemoValue K V) (told table : List (MemoValue K V)) → IsTableOf cmp told table → IsTableOf cmp (told ++ memo ∷ []) (entered cmp memo table)
  enters memo told table is k = ap (λ (l : List (K × V)). value_in cmp l k) (told_values-push told memo) ∙ by memo told table is k (cmp k memo.finding.key) refl
