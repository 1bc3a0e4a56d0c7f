-- Memos once one is put among them, where keys that compare Equal are one key.
use Rattle.std.proofs.Common.{◌≡◌, ◌⊎◌, Option, Some, List, [], ◌∷◌, inl, inr, refl, sym, ap, ◌∙◌}
use Rattle.std.specs.Prelude.{option_map}
use Rattle.std.specs.declared.cmp.Ordering.{Ordering}
use Rattle.std.specs.declared.cmp.Ordering.TheVariants.{Less, Equal, Greater}
use Rattle.std.specs.Ordering.{match_ordering}
use Rattle.sve_store.specs.Made.{IsOneOf}
use Rattle.sve_memo.specs.Memos.{MemoValue, memo_in, put_memo}
use Rattle.sve_ask.specs.Current.{found_in}

module _ {K V : Type 0} (cmp : K → K → Ordering) (exact : (a b : K) → cmp a b ≡ Equal → a ≡ b) (itself : (k : K) → cmp k k ≡ Equal) where
  held_by : (x m : MemoValue K V) (rest : List (MemoValue K V)) (k : K) (o : Ordering) → cmp k x.finding.key ≡ o → (memo_in cmp rest k ≡ Some m → (m.finding.key ≡ k) × IsOneOf rest m)
      → match_ordering o (memo_in cmp rest k) (Some x) (memo_in cmp rest k) ≡ Some m → (m.finding.key ≡ k) × IsOneOf (x ∷ rest) m
  held_by x m rest k Less at later is = let held = later is in (held.0, inr held.1)
  held_by x m rest k Equal at later is = let one : x ≡ m = cc in (ap (λ (y : MemoValue K V). y.finding.key) (sym one) ∙ sym (exact k x.finding.key at), inl (sym one))
  held_by x m rest k Greater at later is = let held = later is in (held.0, inr held.1)

  -- what is found for a key is one of the memos, and of this key
  pub found_held : (memos : List (MemoValue K V)) (k : K) (m : MemoValue K V) → memo_in cmp memos k ≡ Some m → (m.finding.key ≡ k) × IsOneOf memos m
  found_held [] k m is = absurd (cc)
  found_held (x ∷ memos) k m is = held_by x m memos k (cmp k x.finding.key) refl (found_held memos k m) is

  first : (n : MemoValue K V) (rest : List (MemoValue K V)) → memo_in cmp (n ∷ rest) n.finding.key ≡ Some n
  first n rest = rw (itself n.finding.key)

  here_by : (n x : MemoValue K V) (memos rest : List (MemoValue K V)) → memo_in cmp rest n.finding.key ≡ Some n → (o : Ordering) → cmp n.finding.key x.finding.key ≡ o
      → memo_in cmp (match_ordering o (n ∷ x ∷ memos) (n ∷ memos) (x ∷ rest)) n.finding.key ≡ Some n
  here_by n x memos rest later Less at = first n (x ∷ memos)
  here_by n x memos rest later Equal at = first n memos
  here_by n x memos rest later Greater at = rw at later

  -- a memo that is put in is found at its key
  pub put_here : (n : MemoValue K V) (memos : List (MemoValue K V)) → memo_in cmp (put_memo cmp n memos) n.finding.key ≡ Some n
  put_here n [] = first n []
  put_here n (x ∷ memos) = here_by n x memos (put_memo cmp n memos) (put_here n memos) (cmp n.finding.key x.finding.key) refl

  passed : (k : K) (x : MemoValue K V) (rest : List (MemoValue K V)) (o : Ordering) → cmp k x.finding.key ≡ o → (o ≡ Equal → ⊥) → memo_in cmp (x ∷ rest) k ≡ memo_in cmp rest k
  passed k x rest Less at not = rw at
  passed k x rest Equal at not = absurd (not refl)
  passed k x rest Greater at not = rw at

  elsewhere_by : (n x : MemoValue K V) (k : K) (memos rest : List (MemoValue K V)) → (cmp k n.finding.key ≡ Equal → ⊥) → memo_in cmp rest k ≡ memo_in cmp memos k → (o : Ordering) → cmp n.finding.key x.finding.key ≡ o
      → memo_in cmp (match_ordering o (n ∷ x ∷ memos) (n ∷ memos) (x ∷ rest)) k ≡ memo_in cmp (x ∷ memos) k
  elsewhere_by n x k memos rest other later Less at = passed k n (x ∷ memos) (cmp k n.finding.key) refl other
  elsewhere_by n x k memos rest other later Equal at =
      passed k n memos (cmp k n.finding.key) refl other ∙ sym (passed k x memos (cmp k x.finding.key) refl (λ same. other (ap (cmp k) (exact n.finding.key x.finding.key at) ∙ same)))
  elsewhere_by n x k memos rest other later Greater at = ap (λ (o : Option (MemoValue K V)). match_ordering (cmp k x.finding.key) o (Some x) o) later

  put_elsewhere : (n : MemoValue K V) (k : K) → (cmp k n.finding.key ≡ Equal → ⊥) → (memos : List (MemoValue K V)) → memo_in cmp (put_memo cmp n memos) k ≡ memo_in cmp memos k
  put_elsewhere n k other [] = passed k n [] (cmp k n.finding.key) refl other
  put_elsewhere n k other (x ∷ memos) = elsewhere_by n x k memos (put_memo cmp n memos) other (put_elsewhere n k other memos) (cmp n.finding.key x.finding.key) refl

  -- it is found at its key, and every other key is left alone
  pub put_either : (n : MemoValue K V) (memos : List (MemoValue K V)) (k : K) → (n.finding.key ≡ k) ⊎ (found_in cmp (put_memo cmp n memos) k ≡ found_in cmp memos k)
  put_either n memos k = by (cmp k n.finding.key) refl
    where
      other : (o : Ordering) → cmp k n.finding.key ≡ o → (o ≡ Equal → ⊥) → found_in cmp (put_memo cmp n memos) k ≡ found_in cmp memos k
      other o at not = ap (option_map (λ (m : MemoValue K V). m.finding)) (put_elsewhere n k (λ same. not (sym at ∙ same)) memos)

      by : (o : Ordering) → cmp k n.finding.key ≡ o → (n.finding.key ≡ k) ⊎ (found_in cmp (put_memo cmp n memos) k ≡ found_in cmp memos k)
      by Less at = inr (other Less at (λ same. cc))
      by Equal at = inl (sym (exact k n.finding.key at))
      by Greater at = inr (other Greater at (λ same. cc))

  -- a key that is left alone is another one
  pub put_apart : (n : MemoValue K V) (memos : List (MemoValue K V)) (k : K) → (n.finding.key ≡ k) ⊎ ((k ≡ n.finding.key → ⊥) × (found_in cmp (put_memo cmp n memos) k ≡ found_in cmp memos k))
  put_apart n memos k = by (cmp k n.finding.key) refl
    where
      other : (o : Ordering) → cmp k n.finding.key ≡ o → (o ≡ Equal → ⊥) → (k ≡ n.finding.key → ⊥) × (found_in cmp (put_memo cmp n memos) k ≡ found_in cmp memos k)
      other o at not =
          (λ same. not (sym at ∙ ap (cmp k) (sym same) ∙ itself k), ap (option_map (λ (m : MemoValue K V). m.finding)) (put_elsewhere n k (λ same. not (sym at ∙ same)) memos))

      by : (o : Ordering) → cmp k n.finding.key ≡ o → (n.finding.key ≡ k) ⊎ ((k ≡ n.finding.key → ⊥) × (found_in cmp (put_memo cmp n memos) k ≡ found_in cmp memos k))
      by Less at = inr (other Less at (λ same. cc))
      by Equal at = inl (sym (exact k n.finding.key at))
      by Greater at = inr (other Greater at (λ same. cc))

  pub put_found : (n : MemoValue K V) (memos : List (MemoValue K V)) → found_in cmp (put_memo cmp n memos) n.finding.key ≡ Some n.finding
  put_found n memos = ap (option_map (λ (m : MemoValue K V). m.finding)) (put_here n memos)

held_after : {K V : Type 0} (n x m : MemoValue K V) (memos rest : List (MemoValue K V)) → (IsOneOf rest m → (m ≡ n) ⊎ IsOneOf memos m) → (o : Ordering)
    → IsOneOf (match_ordering o (n ∷ x ∷ memos) (n ∷ memos) (x ∷ rest)) m → (m ≡ n) ⊎ IsOneOf (x ∷ memos) m
held_after n x m memos rest later Less (inl e) = inl e
held_after n x m memos rest later Less (inr e) = inr e
held_after n x m memos rest later Equal (inl e) = inl e
held_after n x m memos rest later Equal (inr e) = inr (inr e)
held_after n x m memos rest later Greater (inl e) = inr (inl e)
held_after n x m memos rest later Greater (inr e) = elim (later e) [ inl a ↦ inl a | inr a ↦ inr (inr a) ]

-- a memo among these is the one that was put in, or was there
pub put_held : {K V : Type 0} (cmp : K → K → Ordering) (n : MemoValue K V) (memos : List (MemoValue K V)) (m : MemoValue K V) → IsOneOf (put_memo cmp n memos) m → (m ≡ n) ⊎ IsOneOf memos m
put_held cmp n [] m (inl e) = inl e
put_held cmp n [] m (inr e) = absurd e
put_held cmp n (x ∷ memos) m there = held_after n x m memos (put_memo cmp n memos) (put_held cmp n memos m) (cmp n.finding.key x.finding.key) there
