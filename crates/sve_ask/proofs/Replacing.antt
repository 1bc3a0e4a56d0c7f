-- A memo that does not serve is replaced: it is of a key that no other records, so what is current stays so.
use Rattle.std.proofs.Common.{◌≡◌, ℕ, ◌≤◌, Bool, true, false, Option, Some, None, List, [], ◌∷◌, ◌++◌, ◌⊎◌, inl, inr, refl, sym, ◌∙◌, ap, subst, arith}
use Rattle.std.specs.Prelude.{option_map, IfSome}
use mathlib.Core.HLevel.{⊥_prop}
use mathlib.Core.Logic.{∥∥₁_elim}
use Rattle.std.specs.declared.cmp.Ordering.TheVariants.{Equal}
use Rattle.sve_text.specs.Files.{FilesValue}
use Rattle.sve_history.specs.Histories.{HistoryValue}
use Rattle.sve_store.specs.Made.{values_of, IsOneOf}
use Rattle.sve_store.specs.Values.{IsValue}
use Rattle.sve_memo.specs.Memos.{FindingValue, MemoValue, memo_in, put_memo}
use Rattle.sve_ask.specs.Sound.{Defined, IsFree, IsSound, AllSound}
use Rattle.sve_ask.specs.Current.{first_of, found_in, overlaid, IsCurrent, by_input, by_memo, Currently, Lacking}
use Rattle.sve_ask.specs.Gains.{InReach, itself, further, InReachBelow, AllCurrent, IsSettled, Gains, IsCurrentFor, Makes}
use Rattle.sve_ask.proofs.Lists.{one_of_both, distinct_both, lower_or_not}
use Rattle.sve_ask.proofs.Puts.{found_held, put_apart, put_found, put_held}
use Rattle.sve_ask.proofs.Stays.{one_some, over_fresh}
use Rattle.sve_ask.proofs.Asking.{free_serving}
use Rattle.sve_ask.proofs.Gaining.{current_over}

-- what is current stays so where what was found for one key is replaced, which no other records
replaced : {K V : Type 0} (given : K → Option (V × ℕ)) (a b : K → Option (FindingValue K V)) (x : K) → ((k : K) → (x ≡ k) ⊎ ((k ≡ x → ⊥) × (b k ≡ a k))) → ((k : K) (f : FindingValue K V) → a k ≡ Some f → (j : K) (t : ℕ) → IsOneOf f.reads (j, t) → j ≡ x → ⊥)
    → {k : K} {s : ℕ} → IsCurrent given a k s → (k ≡ x → ⊥) → IsCurrent given b k s
replaced given a b x either apart (by_input is) other = by_input is
replaced given a b x either apart (by_memo {k = k} {f = f} none there stamp reads) other = elim (either k) [
  | inl same ↦ absurd (other (sym same))
  | inr left ↦ by_memo none (left.1 ∙ there) stamp (λ j t i. replaced given a b x either apart (reads j t i) (apart k f there j t i))
]

-- what is recorded for a key that no memo may record
module _ {K V : Type 0} (D : Defined K V) (h : HistoryValue) (x : K) (not : IsFree D h x → ⊥) where
  apart_of : (m : MemoValue K V) → ∥ IsSound D h m ∥₁ → (j : K) (t : ℕ) → IsOneOf m.finding.reads (j, t) → j ≡ x → ⊥
  apart_of m sound j t there same = ∥∥₁_elim sound ⊥_prop (λ s. not (subst (λ q. IsFree D h q) same (s.each j t there).2))

  module _ (exact : (a b : K) → D.cmp a b ≡ Equal → a ≡ b) (equal : (k : K) → D.cmp k k ≡ Equal) where
    apart_by : (memos : List (MemoValue K V)) → AllSound D h memos → (k : K) (f : FindingValue K V) (o : Option (MemoValue K V)) → memo_in D.cmp memos k ≡ o → option_map (λ (m : MemoValue K V). m.finding) o ≡ Some f
        → (j : K) (t : ℕ) → IsOneOf f.reads (j, t) → j ≡ x → ⊥
    apart_by memos all k f None is there j t i = absurd (cc)
    apart_by memos all k f (Some m) is there j t i =
        let one : m.finding ≡ f = cc in apart_of m (all m (found_held D.cmp exact equal memos k m is).1) j t (subst (λ (y : FindingValue K V). IsOneOf y.reads (j, t)) (sym one) i)

    apart_in : (memos : List (MemoValue K V)) → AllSound D h memos → (k : K) (f : FindingValue K V) → found_in D.cmp memos k ≡ Some f → (j : K) (t : ℕ) → IsOneOf f.reads (j, t) → j ≡ x → ⊥
    apart_in memos all k f there = apart_by memos all k f (memo_in D.cmp memos k) refl there

    apart_first : (f : FindingValue K V) (o p : Option (FindingValue K V)) → (o ≡ Some f → (j : K) (t : ℕ) → IsOneOf f.reads (j, t) → j ≡ x → ⊥) → (p ≡ Some f → (j : K) (t : ℕ) → IsOneOf f.reads (j, t) → j ≡ x → ⊥) → first_of o p ≡ Some f
        → (j : K) (t : ℕ) → IsOneOf f.reads (j, t) → j ≡ x → ⊥
    apart_first f None p one two is = two is
    apart_first f (Some y) p one two is = one is

    apart_over : (fresh lent : List (MemoValue K V)) → AllSound D h fresh → AllSound D h lent → (k : K) (f : FindingValue K V) → overlaid D.cmp fresh lent k ≡ Some f → (j : K) (t : ℕ) → IsOneOf f.reads (j, t) → j ≡ x → ⊥
    apart_over fresh lent a b k f there = apart_first f (found_in D.cmp fresh k) (found_in D.cmp lent k) (apart_in fresh a k f) (apart_in lent b k f) there

module _ {K V : Type 0} (D : Defined K V) (h : HistoryValue) (exact : (a b : K) → D.cmp a b ≡ Equal → a ≡ b) (equal : (k : K) → D.cmp k k ≡ Equal)
    (serve : (files : FilesValue) (k : K) (fuel : ℕ) (v : V) → IsValue D.cmp (values_of (D.given files)) D.make k fuel v → D.serves v fuel ≡ true) where
  lacks_by : (o : Option (FindingValue K V)) (fuel : ℕ) → IfSome o (λ f. D.serves f.value fuel ≡ true) → (f : FindingValue K V) → o ≡ Some f → D.serves f.value fuel ≡ false → ⊥
  lacks_by None fuel serving f is lacks = absurd (cc)
  lacks_by (Some y) fuel serving f is lacks = let one : y ≡ f = cc in let two = ap (λ (z : FindingValue K V). D.serves z.value fuel) one in absurd (cc)

  -- a key of which a sound memo does not serve is no key that another may read
  pub lacking_not_free : (fresh lent : List (MemoValue K V)) → AllSound D h fresh → AllSound D h lent → (k : K) (fuel : ℕ) → Lacking (overlaid D.cmp fresh lent) D.serves k fuel → IsFree D h k → ⊥
  lacking_not_free fresh lent a b k fuel lacks free =
      lacks_by (overlaid D.cmp fresh lent k) fuel (free_serving D h exact equal serve fresh lent a b k fuel ∣ free ∣₁) lacks.0 lacks.1 lacks.2

  pub lacking_not_for : (files : FilesValue) (fresh lent : List (MemoValue K V)) (k : K) (fuel : ℕ) → Lacking (overlaid D.cmp fresh lent) D.serves k fuel → IsCurrentFor D files (overlaid D.cmp fresh lent) k fuel → ⊥
  lacking_not_for files fresh lent k fuel lacks is = lacks_by (overlaid D.cmp fresh lent k) fuel is.1 lacks.0 lacks.1 lacks.2

-- what serves at a fuel serves at each lower one
serving_lower : {K V : Type 0} {serves : V → ℕ → Bool} (o : Option (FindingValue K V)) → ((v : V) (f g : ℕ) → g ≤ f → serves v f ≡ true → serves v g ≡ true) → (f g : ℕ) → g ≤ f → IfSome o (λ x. serves x.value f ≡ true) → IfSome o (λ x. serves x.value g ≡ true)
serving_lower None lower f g le is = tt
serving_lower (Some x) lower f g le is = lower x.value f g le is

module _ {K V : Type 0} (D : Defined K V) (files : FilesValue) (height : K → ℕ) (lent : List (MemoValue K V)) (r : ℕ) where
  -- what a call adds, in the words of an ask
  pub makes_of : {top f : ℕ} (fuel : ℕ) {Reach : K → Type 0} (P : K → Type 0) {a b : List (MemoValue K V)} {made : List K} → Gains D files height lent r top f Reach a b made → ((k : K) → Reach k → P k) → Makes D files lent r fuel P a b made
  makes_of fuel P g within = record {
    settled = g.settled;
    still = λ k f c. ((c.0.0, g.still k c.0.0 c.0.1), subst (λ (o : Option (FindingValue K V)). IfSome o (λ x. D.serves x.value f ≡ true)) (sym (g.same k c.0.0 c.0.1)) c.1);
    distinct = g.distinct;
    each = λ k i. let e = g.each k i in (within k e.0, λ is. e.1 is.0.0 is.0.1, e.2);
  }

  module _ (h : HistoryValue) (exact : (a b : K) → D.cmp a b ≡ Equal → a ≡ b) (equal : (k : K) → D.cmp k k ≡ Equal) (b : List (MemoValue K V)) (n : MemoValue K V) (not : IsFree D h n.finding.key → ⊥)
      (all : AllSound D h b) (shared : AllSound D h lent) (sound : ∥ IsSound D h n ∥₁) (settled : IsSettled D files r b) (late : n.verified ≡ r) (none : D.given files n.finding.key ≡ None) (reads : AllCurrent D files (found_in D.cmp b) (λ j. Unit {0}) n.finding.reads) where
    either : (k : K) → (n.finding.key ≡ k) ⊎ ((k ≡ n.finding.key → ⊥) × (found_in D.cmp (put_memo D.cmp n b) k ≡ found_in D.cmp b k))
    either k = put_apart D.cmp exact equal n b k

    stays : {k : K} {s : ℕ} → IsCurrent (D.given files) (found_in D.cmp b) k s → (k ≡ n.finding.key → ⊥) → IsCurrent (D.given files) (found_in D.cmp (put_memo D.cmp n b)) k s
    stays c other = replaced (D.given files) (found_in D.cmp b) (found_in D.cmp (put_memo D.cmp n b)) n.finding.key either (apart_in D h n.finding.key not exact equal b all) c other

    over_either : (k : K) → (n.finding.key ≡ k) ⊎ ((k ≡ n.finding.key → ⊥) × (overlaid D.cmp (put_memo D.cmp n b) lent k ≡ overlaid D.cmp b lent k))
    over_either k = elim (either k) [ inl same ↦ inl same | inr left ↦ inr (left.0, ap (λ o. first_of o (found_in D.cmp lent k)) left.1) ]

    here : found_in D.cmp (put_memo D.cmp n b) n.finding.key ≡ Some n.finding
    here = put_found D.cmp exact equal n b

    pub current_now : IsCurrent (D.given files) (found_in D.cmp (put_memo D.cmp n b)) n.finding.key n.finding.stamp
    current_now = by_memo none here refl (λ j t i. stays (reads j t i tt) (apart_of D h n.finding.key not n sound j t i))

    settled_now : IsSettled D files r (put_memo D.cmp n b)
    settled_now = record {
      verified = λ m there. elim (put_held D.cmp n b m there) [ inl is ↦ (ap (λ (x : MemoValue K V). x.verified) is ∙ late) | inr old ↦ settled.verified m old ];
      current = λ k f is. elim (either k) [
        | inl same ↦ (
            let one = one_some (found_in D.cmp (put_memo D.cmp n b) n.finding.key) n.finding f here (ap (found_in D.cmp (put_memo D.cmp n b)) same ∙ is) in
            subst (λ (x : FindingValue K V). IsCurrent (D.given files) (found_in D.cmp (put_memo D.cmp n b)) k x.stamp) one (subst (λ q. IsCurrent (D.given files) (found_in D.cmp (put_memo D.cmp n b)) q n.finding.stamp) same current_now)
            )
        | inr left ↦ stays (settled.current k f (sym left.1 ∙ is)) left.0
      ];
    }

    over_now : Currently (D.given files) (overlaid D.cmp (put_memo D.cmp n b) lent) n.finding.key
    over_now = (n.finding.stamp, current_over D files height lent r (put_memo D.cmp n b) current_now)

    still_now : (k : K) → Currently (D.given files) (overlaid D.cmp b lent) k → Currently (D.given files) (overlaid D.cmp (put_memo D.cmp n b) lent) k
    still_now k c = elim (over_either k) [
      | inl same ↦ subst (λ q. Currently (D.given files) (overlaid D.cmp (put_memo D.cmp n b) lent) q) same over_now
      | inr left ↦ (c.0, replaced (D.given files) (overlaid D.cmp b lent) (overlaid D.cmp (put_memo D.cmp n b) lent) n.finding.key over_either (apart_over D h n.finding.key not exact equal b lent all shared) c.1 left.0)
    ]

    -- a memo that replaces one that did not serve
    pub makes_again : ((v : V) (f g : ℕ) → g ≤ f → D.serves v f ≡ true → D.serves v g ≡ true) → (fuel : ℕ) → D.serves n.finding.value fuel ≡ true → {a : List (MemoValue K V)} {xs : List K} → (IsCurrentFor D files (overlaid D.cmp a lent) n.finding.key fuel → ⊥)
        → Gains D files height lent r (height n.finding.key) 0 (InReachBelow D files (overlaid D.cmp a lent) n.finding.key fuel) a b xs
        → Makes D files lent r fuel (InReach D files (overlaid D.cmp a lent) n.finding.key fuel) a (put_memo D.cmp n b) (xs ++ (n.finding.key ∷ []))
    makes_again lower fuel serves {a} {xs} lacks g = record {
      settled = settled_now;
      still = λ k f c. (
        still_now k (c.0.0, g.still k c.0.0 c.0.1),
        elim (over_either k) [
          | inl same ↦ subst (λ q. IfSome (overlaid D.cmp (put_memo D.cmp n b) lent q) (λ x. D.serves x.value f ≡ true)) same (subst (λ (o : Option (FindingValue K V)). IfSome o (λ x. D.serves x.value f ≡ true)) (sym (over_fresh (found_in D.cmp (put_memo D.cmp n b) n.finding.key) (found_in D.cmp lent n.finding.key) n.finding here)) (elim (lower_or_not f fuel) [
            | inl l ↦ lower n.finding.value fuel f (omega (arith, l)) serves
            | inr l ↦ absurd (lacks (subst (λ q. IsCurrentFor D files (overlaid D.cmp a lent) q fuel) (sym same) (c.0, serving_lower (overlaid D.cmp a lent k) lower f fuel l c.1)))
          ]))
          | inr left ↦ subst (λ (o : Option (FindingValue K V)). IfSome o (λ x. D.serves x.value f ≡ true)) (sym (left.1 ∙ g.same k c.0.0 c.0.1)) c.1
        ],
      );
      distinct = distinct_both xs (n.finding.key ∷ []) g.distinct (λ i. i, tt) (λ k i j. elim j [ inl same ↦ (let low = g.below k i in let e = ap height same in absurd (omega (arith, low, e))) | inr never ↦ absurd never ]);
      each = λ k i. elim (one_of_both xs (n.finding.key ∷ []) k i) [
        | inl x ↦ (let e = g.each k x in (further (inr e.0.1) e.0.2, λ is. e.1 is.0.0 is.0.1, still_now k e.2))
        | inr x ↦ elim x [
          | inl same ↦ (subst (λ q. InReach D files (overlaid D.cmp a lent) n.finding.key fuel q) (sym same) itself, λ is. lacks (subst (λ q. IsCurrentFor D files (overlaid D.cmp a lent) q fuel) same is), subst (λ q. Currently (D.given files) (overlaid D.cmp (put_memo D.cmp n b) lent) q) (sym same) over_now)
          | inr never ↦ absurd never
        ]
      ];
    }
