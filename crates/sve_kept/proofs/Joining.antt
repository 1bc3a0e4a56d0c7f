-- Memos once others are joined to them, where keys that compare Equal are one key.
use Rattle.std.proofs.Common.{◌≡◌, Bool, true, false, cond, Option, Some, None, List, [], ◌∷◌, inl, inr, refl, sym, ap, ◌∙◌, subst}
use Rattle.std.specs.declared.cmp.Ordering.{Ordering}
use Rattle.std.specs.declared.cmp.Ordering.TheVariants.{Less, Equal, Greater}
use Rattle.std.specs.Ordering.{match_ordering}
use Rattle.sve_history.specs.Histories.{HistoryValue}
use Rattle.sve_memo.specs.Memos.{MemoValue, memo_in, put_memo, AllAfter, IsInOrder}
use Rattle.sve_ask.specs.Sound.{Defined, IsSound, AllSound}
use Rattle.sve_ask.proofs.Puts.{put_here}
use Rattle.sve_ask.proofs.Asking.{sound_put}
use Rattle.sve_kept.specs.Kept.{has_later, kept_of, AreJoined, put_later, joined}

module _ {K V : Type 0} (cmp : K → K → Ordering) (exact : (a b : K) → cmp a b ≡ Equal → a ≡ b) (itself : (k : K) → cmp k k ≡ Equal) where
  passed : (k : K) (x : MemoValue K V) (rest : List (MemoValue K V)) (o : Ordering) → cmp k x.finding.key ≡ o → (o ≡ Equal → ⊥) → memo_in cmp (x ∷ rest) k ≡ memo_in cmp rest k
  passed k x rest Less at not = rw at
  passed k x rest Equal at not = absurd (not refl)
  passed k x rest Greater at not = rw at

  elsewhere_by : (n x : MemoValue K V) (k : K) (memos rest : List (MemoValue K V)) → (cmp k n.finding.key ≡ Equal → ⊥) → memo_in cmp rest k ≡ memo_in cmp memos k → (o : Ordering) → cmp n.finding.key x.finding.key ≡ o
      → memo_in cmp (match_ordering o (n ∷ x ∷ memos) (n ∷ memos) (x ∷ rest)) k ≡ memo_in cmp (x ∷ memos) k
  elsewhere_by n x k memos rest other later Less at = passed k n (x ∷ memos) (cmp k n.finding.key) refl other
  elsewhere_by n x k memos rest other later Equal at =
      passed k n memos (cmp k n.finding.key) refl other ∙ sym (passed k x memos (cmp k x.finding.key) refl (λ same. other (ap (cmp k) (exact n.finding.key x.finding.key at) ∙ same)))
  elsewhere_by n x k memos rest other later Greater at = ap (λ (o : Option (MemoValue K V)). match_ordering (cmp k x.finding.key) o (Some x) o) later

  -- a memo that is put in leaves the memo of every other key
  put_elsewhere : (n : MemoValue K V) (k : K) → (cmp k n.finding.key ≡ Equal → ⊥) → (memos : List (MemoValue K V)) → memo_in cmp (put_memo cmp n memos) k ≡ memo_in cmp memos k
  put_elsewhere n k other [] = passed k n [] (cmp k n.finding.key) refl other
  put_elsewhere n k other (x ∷ memos) = elsewhere_by n x k memos (put_memo cmp n memos) other (put_elsewhere n k other memos) (cmp n.finding.key x.finding.key) refl

  chosen_here : (b : Bool) (n : MemoValue K V) (memos : List (MemoValue K V)) → memo_in cmp (cond b memos (put_memo cmp n memos)) n.finding.key ≡ cond b (memo_in cmp memos n.finding.key) (Some n)
  chosen_here true n memos = refl
  chosen_here false n memos = put_here cmp exact itself n memos

  chosen_elsewhere : (b : Bool) (n : MemoValue K V) (k : K) → (cmp k n.finding.key ≡ Equal → ⊥) → (memos : List (MemoValue K V)) → memo_in cmp (cond b memos (put_memo cmp n memos)) k ≡ memo_in cmp memos k
  chosen_elsewhere true n k other memos = refl
  chosen_elsewhere false n k other memos = put_elsewhere n k other memos

  -- a key before those of the memos has none of them
  nowhere : (k : K) (memos : List (MemoValue K V)) → AllAfter cmp k memos → memo_in cmp memos k ≡ None
  nowhere k [] after = refl
  nowhere k (memo ∷ memos) after = rw after.0 (nowhere k memos after.1)

  join_by : (n : MemoValue K V) (fresh held : List (MemoValue K V)) (k : K) → AllAfter cmp n.finding.key fresh → (o : Ordering) → cmp k n.finding.key ≡ o
      → kept_of (memo_in cmp fresh k) (memo_in cmp (put_later cmp n held) k) ≡ kept_of (match_ordering o (memo_in cmp fresh k) (Some n) (memo_in cmp fresh k)) (memo_in cmp held k)
  join_by n fresh held k after Less at = ap (kept_of (memo_in cmp fresh k)) (chosen_elsewhere (has_later (memo_in cmp held n.finding.key) n.verified) n k (λ same. absurd (let both : Less ≡ Equal = sym at ∙ same in cc)) held)
  join_by n fresh held k after Equal at =
      let same = exact k n.finding.key at in
      let P : K → Type 0 = λ q. kept_of (memo_in cmp fresh q) (memo_in cmp (put_later cmp n held) q) ≡ kept_of (Some n) (memo_in cmp held q) in
      let here = ap (λ (o : Option (MemoValue K V)). kept_of o (memo_in cmp (put_later cmp n held) n.finding.key)) (nowhere n.finding.key fresh after) ∙ chosen_here (has_later (memo_in cmp held n.finding.key) n.verified) n held in
      subst P (sym same) here
  join_by n fresh held k after Greater at = ap (kept_of (memo_in cmp fresh k)) (chosen_elsewhere (has_later (memo_in cmp held n.finding.key) n.verified) n k (λ same. absurd (let both : Greater ≡ Equal = sym at ∙ same in cc)) held)

  -- memos in the order of their keys that are put in one after another are joined
  pub joins : (fresh held : List (MemoValue K V)) → IsInOrder cmp fresh → AreJoined cmp fresh held (joined cmp held fresh)
  joins [] held order k = refl
  joins (n ∷ fresh) held order k = joins fresh (put_later cmp n held) order.1 k ∙ join_by n fresh held k order.0 (cmp k n.finding.key) refl

module _ {K V : Type 0} (D : Defined K V) (h : HistoryValue) where
  chosen_sound : (b : Bool) (n : MemoValue K V) (held : List (MemoValue K V)) → AllSound D h held → ∥ IsSound D h n ∥₁ → AllSound D h (cond b held (put_memo D.cmp n held))
  chosen_sound true n held all sound = all
  chosen_sound false n held all sound = sound_put D h held n all sound

  -- sound memos that are joined to sound ones are sound
  pub joined_sound : (fresh held : List (MemoValue K V)) → AllSound D h held → AllSound D h fresh → AllSound D h (joined D.cmp held fresh)
  joined_sound [] held all new = all
  joined_sound (n ∷ fresh) held all new =
      joined_sound fresh (put_later D.cmp n held) (chosen_sound (has_later (memo_in D.cmp held n.finding.key) n.verified) n held all (new n (inl refl))) (λ m i. new m (inr i))
