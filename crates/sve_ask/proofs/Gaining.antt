-- What calls one after another add to the fresh memos.
use Rattle.std.proofs.Common.{◌≡◌, ℕ, suc, ◌+◌, ◌<◌, ◌≤◌, Bool, true, false, Option, Some, None, List, [], ◌∷◌, ◌++◌, ◌⊎◌, inl, inr, refl, sym, ◌∙◌, ap, subst, arith, length}
use Rattle.std.specs.declared.cmp.Ordering.TheVariants.{Equal}
use Rattle.sve_text.specs.Files.{FilesValue}
use Rattle.sve_store.specs.Made.{IsOneOf, next_count}
use Rattle.sve_memo.specs.Memos.{FindingValue, MemoValue, put_memo}
use Rattle.sve_ask.specs.Sound.{Defined}
use Rattle.sve_ask.specs.Current.{first_of, found_in, overlaid, IsCurrent, by_input, by_memo, Currently, NotYet}
use Rattle.sve_ask.specs.Gains.{Reads, InReach, itself, further, InPhase, InReachOfReads, InReachBelow, IsBelow, AllCurrent, OneStale, HasShown, IsRenewed, IsSettled, Gains}
use Rattle.sve_ask.proofs.Lists.{one_of_both, distinct_both, length_both, lower_or_not}
use Rattle.sve_ask.proofs.Puts.{put_either, put_found, put_held}
use Rattle.sve_ask.proofs.Stays.{one_some, none_some, over_fresh, current_along, current_more, current_one, current_found, overlaid_same}

pub next_least : (n : ℕ) → next_count n ≤ suc n
next_least n = omega arith

module _ {K V : Type 0} (D : Defined K V) (files : FilesValue) (height : K → ℕ) (lent : List (MemoValue K V)) (r : ℕ) where
  -- what is current among the fresh memos is current
  pub current_over : (a : List (MemoValue K V)) {k : K} {s : ℕ} → IsCurrent (D.given files) (found_in D.cmp a) k s → IsCurrent (D.given files) (overlaid D.cmp a lent) k s
  current_over a c = current_more (D.given files) (found_in D.cmp a) (overlaid D.cmp a lent) (λ k f is. over_fresh (found_in D.cmp a k) (found_in D.cmp lent k) f is) c

  pub no_gain : (top fuel : ℕ) (Reach : K → Type 0) (a : List (MemoValue K V)) → IsSettled D files r a → Gains D files height lent r top fuel Reach a a []
  no_gain top fuel Reach a settled = record { settled = settled; kept = λ k f is. is; high = λ k l. refl; still = λ k s c. c; same = λ k s c. refl; recorded = λ zero k j x. inl x; distinct = tt; below = λ k i. absurd i; each = λ k i. absurd i }

  -- the reach after a call is in the reach before it
  pub reach_before : {top : ℕ} {Reach : K → Type 0} {a b : List (MemoValue K V)} {made : List K} → Gains D files height lent r top 0 Reach a b made → {k m : K} {fuel : ℕ} → fuel ≡ 0
      → InReach D files (overlaid D.cmp b lent) k fuel m → InReach D files (overlaid D.cmp a lent) k fuel m
  reach_before g zero itself = itself
  reach_before g zero (further {k = k} {fuel = fuel} {j = j} (inl x) rest) = further (elim (g.recorded refl k j x) [ inl y ↦ inl y | inr y ↦ inr (subst (λ u. Reads D files k u j) (sym zero) y) ]) (reach_before g refl rest)
  reach_before g zero (further (inr x) rest) = further (inr x) (reach_before g refl rest)

  pub gain_then : {n p fuel : ℕ} (q : ℕ) {R Q : K → Type 0} (P : K → Type 0) {a b c : List (MemoValue K V)} {xs ys : List K} → Gains D files height lent r n 0 R a b xs → Gains D files height lent r p fuel Q b c ys → n ≤ q → p ≤ q
      → ((k : K) → R k → P k) → ((k : K) → Q k → P k) → Gains D files height lent r q fuel P a c (xs ++ ys)
  gain_then q P {xs = xs} {ys = ys} g h l m u v = record {
    settled = h.settled;
    kept = λ k f is. h.kept k f (g.kept k f is);
    high = λ k e. h.high k (omega (arith, e, m)) ∙ g.high k (omega (arith, e, l));
    still = λ k s x. h.still k s (g.still k s x);
    same = λ k s x. h.same k s (g.still k s x) ∙ g.same k s x;
    recorded = λ zero k j x. elim (h.recorded zero k j x) [ inl y ↦ g.recorded refl k j y | inr y ↦ inr y ];
    distinct = distinct_both xs ys g.distinct h.distinct (λ k i j. let now = (g.each k i).2 in (h.each k j).1 now.0 now.1);
    below = λ k i. elim (one_of_both xs ys k i) [ inl x ↦ (let e = g.below k x in omega (arith, e, l)) | inr x ↦ (let e = h.below k x in omega (arith, e, m)) ];
    each = λ k i. elim (one_of_both xs ys k i) [
      | inl x ↦ (let e = g.each k x in (u k e.0, e.1, (e.2.0, h.still k e.2.0 e.2.1)))
      | inr x ↦ (let e = h.each k x in (v k e.0, λ s y. e.1 s (g.still k s y), e.2))
    ];
  }

  pub gain_within : {n : ℕ} (q fuel : ℕ) {R : K → Type 0} (P : K → Type 0) {a b : List (MemoValue K V)} {xs : List K} → Gains D files height lent r n 0 R a b xs → n ≤ q → ((k : K) → R k → P k) → Gains D files height lent r q fuel P a b xs
  gain_within q fuel P g l u = record {
    settled = g.settled;
    kept = g.kept;
    high = λ k e. g.high k (omega (arith, e, l));
    still = g.still;
    same = g.same;
    recorded = λ zero k j x. g.recorded refl k j x;
    distinct = g.distinct;
    below = λ k i. let e = g.below k i in omega (arith, e, l);
    each = λ k i. let e = g.each k i in (u k e.0, e.1, e.2);
  }

  -- a recorded read is brought, after others
  pub gain_read : (n t : ℕ) (j : K) (reads : List (K × ℕ)) {a b c : List (MemoValue K V)} {xs ys : List K} → Gains D files height lent r n 0 (InReachOfReads D files (overlaid D.cmp a lent) reads) a b xs
      → Gains D files height lent r (height j + 1) 0 (InReach D files (overlaid D.cmp b lent) j 0) b c ys → height j < n → IsOneOf reads (j, t)
      → Gains D files height lent r n 0 (InReachOfReads D files (overlaid D.cmp a lent) reads) a c (xs ++ ys)
  gain_read n t j reads {a} g h l i = gain_then n (InReachOfReads D files (overlaid D.cmp a lent) reads) g h (omega arith) (omega (arith, l)) (λ k y. y) (λ k y. (j, t, i, reach_before g refl y))

  -- a needed key is brought, after others
  pub gain_need : (n fuel : ℕ) (key j : K) {a b c : List (MemoValue K V)} {xs ys : List K} → Gains D files height lent r n 0 (InReachBelow D files (overlaid D.cmp a lent) key fuel) a b xs
      → Gains D files height lent r (height j + 1) 0 (InReach D files (overlaid D.cmp b lent) j 0) b c ys → height j < n → Reads D files key fuel j
      → Gains D files height lent r n 0 (InReachBelow D files (overlaid D.cmp a lent) key fuel) a c (xs ++ ys)
  gain_need n fuel key j {a} g h l i = gain_then n (InReachBelow D files (overlaid D.cmp a lent) key fuel) g h (omega arith) (omega (arith, l)) (λ k y. y) (λ k y. (j, i, reach_before g refl y))

  -- both phases
  pub both_phases : (is : Bool) (key : K) (a b : List (MemoValue K V)) (reads : List (K × ℕ)) → AllCurrent D files (found_in D.cmp a) (λ j. InPhase false (D.ranked j) (D.ranked key)) reads
      → ((k : K) (f : FindingValue K V) → found_in D.cmp a k ≡ Some f → found_in D.cmp b k ≡ Some f) → HasShown D files is (found_in D.cmp b) (λ j. InPhase true (D.ranked j) (D.ranked key)) reads
      → HasShown D files is (found_in D.cmp b) (λ j. Unit {0}) reads
  both_phases true key a b reads low more own = λ j t i u. elim (lower_or_not (D.ranked j) (D.ranked key)) [ inl l ↦ current_more (D.given files) (found_in D.cmp a) (found_in D.cmp b) more (low j t i l) | inr l ↦ own j t i l ]
  both_phases false key a b reads low more own = own

  pub stale_more : (a b : List (MemoValue K V)) (reads : List (K × ℕ)) → ((k : K) (f : FindingValue K V) → found_in D.cmp a k ≡ Some f → found_in D.cmp b k ≡ Some f) → OneStale D files (found_in D.cmp a) reads → OneStale D files (found_in D.cmp b) reads
  stale_more a b reads more old = (old.0, old.1, old.2, old.3, current_more (D.given files) (found_in D.cmp a) (found_in D.cmp b) more old.4, old.5)

  -- a key for which nothing was found is not current
  pub not_yet_none : (a : List (MemoValue K V)) (k : K) → D.given files k ≡ None → overlaid D.cmp a lent k ≡ None → NotYet (D.given files) (overlaid D.cmp a lent) k
  not_yet_none a k none nothing s c = let found = current_found (D.given files) (overlaid D.cmp a lent) c none in none_some (overlaid D.cmp a lent k) found.0 nothing found.1

  -- a key of which one recorded read is current with another stamp is not current
  pub not_yet : (a : List (MemoValue K V)) (k : K) (f : FindingValue K V) → D.given files k ≡ None → overlaid D.cmp a lent k ≡ Some f → OneStale D files (found_in D.cmp a) f.reads → NotYet (D.given files) (overlaid D.cmp a lent) k
  not_yet a k f none there old s c =
      let found = current_found (D.given files) (overlaid D.cmp a lent) c none in
      let same = one_some (overlaid D.cmp a lent k) f found.0 there found.1 in
      let now = found.3 old.0 old.1 (subst (λ (x : FindingValue K V). IsOneOf x.reads (old.0, old.1)) same old.3) in
      old.5 (current_one (D.given files) (overlaid D.cmp a lent) (current_over a old.4) now)

  -- what a renewed memo has cost
  pub renewed_cost : (fresh found : K → Option (FindingValue K V)) (k : K) (fuel : ℕ) (f : FindingValue K V) (after least : ℕ) → IsRenewed D files fresh found k fuel f after least → after ≤ suc least
  renewed_cost fresh found k fuel f after least renewed = elim renewed.1 [ inl p ↦ (let l = p.1 in omega (arith, l)) | inr p ↦ p.2 ]

  module _ (exact : (a b : K) → D.cmp a b ≡ Equal → a ≡ b) (equal : (k : K) → D.cmp k k ≡ Equal) (b : List (MemoValue K V)) (n : MemoValue K V) (nothing : found_in D.cmp b n.finding.key ≡ None) where
    either : (k : K) → (n.finding.key ≡ k) ⊎ (found_in D.cmp (put_memo D.cmp n b) k ≡ found_in D.cmp b k)
    either k = put_either D.cmp exact equal n b k

    here : found_in D.cmp (put_memo D.cmp n b) n.finding.key ≡ Some n.finding
    here = put_found D.cmp exact equal n b

    kept_put : (k : K) (f : FindingValue K V) → found_in D.cmp b k ≡ Some f → found_in D.cmp (put_memo D.cmp n b) k ≡ Some f
    kept_put k f is = elim (either k) [ inl same ↦ absurd (none_some (found_in D.cmp b k) f (ap (found_in D.cmp b) (sym same) ∙ nothing) is) | inr other ↦ other ∙ is ]

    over_put : (k : K) → found_in D.cmp (put_memo D.cmp n b) k ≡ found_in D.cmp b k → overlaid D.cmp (put_memo D.cmp n b) lent k ≡ overlaid D.cmp b lent k
    over_put k is = ap (λ o. first_of o (found_in D.cmp lent k)) is

    high_put : (k : K) → height n.finding.key + 1 ≤ height k → found_in D.cmp (put_memo D.cmp n b) k ≡ found_in D.cmp b k
    high_put k l = elim (either k) [ inl same ↦ (let e = ap height same in absurd (omega (arith, e, l))) | inr other ↦ other ]

    module _ (settled : IsSettled D files r b) (late : n.verified ≡ r) (none : D.given files n.finding.key ≡ None) (all : AllCurrent D files (found_in D.cmp b) (λ j. Unit {0}) n.finding.reads) where
      grown : {k : K} {s : ℕ} → IsCurrent (D.given files) (found_in D.cmp b) k s → IsCurrent (D.given files) (found_in D.cmp (put_memo D.cmp n b)) k s
      grown c = current_more (D.given files) (found_in D.cmp b) (found_in D.cmp (put_memo D.cmp n b)) kept_put c

      pub now_current : IsCurrent (D.given files) (found_in D.cmp (put_memo D.cmp n b)) n.finding.key n.finding.stamp
      now_current = by_memo none here refl (λ j t i. grown (all j t i tt))

      settled_put : IsSettled D files r (put_memo D.cmp n b)
      settled_put = record {
        verified = λ m there. elim (put_held D.cmp n b m there) [ inl is ↦ (ap (λ (x : MemoValue K V). x.verified) is ∙ late) | inr old ↦ settled.verified m old ];
        current = λ k f is. elim (either k) [
          | inl same ↦ (
              let one = one_some (found_in D.cmp (put_memo D.cmp n b) n.finding.key) n.finding f here (ap (found_in D.cmp (put_memo D.cmp n b)) same ∙ is) in
              subst (λ (x : FindingValue K V). IsCurrent (D.given files) (found_in D.cmp (put_memo D.cmp n b)) k x.stamp) one (subst (λ q. IsCurrent (D.given files) (found_in D.cmp (put_memo D.cmp n b)) q n.finding.stamp) same now_current)
              )
          | inr other ↦ grown (settled.current k f (sym other ∙ is))
        ];
      }

      -- a memo that is verified later adds nothing
      gain_same : (fuel : ℕ) (Reach : K → Type 0) → overlaid D.cmp b lent n.finding.key ≡ Some n.finding → Gains D files height lent r (height n.finding.key + 1) fuel Reach b (put_memo D.cmp n b) []
      gain_same fuel Reach is = record {
        settled = settled_put;
        kept = kept_put;
        high = high_put;
        still = λ k s c. current_along (D.given files) (overlaid D.cmp b lent) (overlaid D.cmp (put_memo D.cmp n b) lent) (λ q. sym (overlaid_same D.cmp exact equal b lent n is q)) k s c;
        same = λ k s c. overlaid_same D.cmp exact equal b lent n is k;
        recorded = λ zero k j x. inl (x.0, x.1, sym (overlaid_same D.cmp exact equal b lent n is k) ∙ x.2, x.3);
        distinct = tt;
        below = λ k i. absurd i;
        each = λ k i. absurd i;
      }

      still_put : NotYet (D.given files) (overlaid D.cmp b lent) n.finding.key → {k : K} {s : ℕ} → IsCurrent (D.given files) (overlaid D.cmp b lent) k s → IsCurrent (D.given files) (overlaid D.cmp (put_memo D.cmp n b) lent) k s
      still_put not (by_input is) = by_input is
      still_put not (by_memo {k = k} {s = s} {f = f} nothing_given there stamp reads) = elim (either k) [
        | inl same ↦ absurd (not s (subst (λ x. IsCurrent (D.given files) (overlaid D.cmp b lent) x s) (sym same) (by_memo nothing_given there stamp reads)))
        | inr other ↦ by_memo nothing_given (over_put k other ∙ there) stamp (λ j t i. still_put not (reads j t i))
      ]

      -- a memo that is computed anew makes its key current
      gain_new : (fuel : ℕ) → NotYet (D.given files) (overlaid D.cmp b lent) n.finding.key → ((j : K) (t : ℕ) → IsOneOf n.finding.reads (j, t) → Reads D files n.finding.key fuel j)
          → Gains D files height lent r (height n.finding.key + 1) fuel (λ k. k ≡ n.finding.key) b (put_memo D.cmp n b) (n.finding.key ∷ [])
      gain_new fuel not reads = record {
        settled = settled_put;
        kept = kept_put;
        high = high_put;
        still = λ k s c. still_put not c;
        same = λ k s c. elim (either k) [ inl same ↦ absurd (not s (subst (λ x. IsCurrent (D.given files) (overlaid D.cmp b lent) x s) (sym same) c)) | inr other ↦ over_put k other ];
        recorded = λ zero k j x. elim (either k) [
          | inl same ↦ (
              let over = over_fresh (found_in D.cmp (put_memo D.cmp n b) n.finding.key) (found_in D.cmp lent n.finding.key) n.finding here in
              let one = one_some (overlaid D.cmp (put_memo D.cmp n b) lent n.finding.key) x.0 n.finding (ap (overlaid D.cmp (put_memo D.cmp n b) lent) same ∙ x.2) over in
              inr (subst (λ y. Reads D files y 0 j) same (subst (λ y. Reads D files n.finding.key y j) zero (reads j x.1 (subst (λ (f : FindingValue K V). IsOneOf f.reads (j, x.1)) one x.3))))
              )
          | inr other ↦ inl (x.0, x.1, sym (over_put k other) ∙ x.2, x.3)
        ];
        distinct = (λ i. i, tt);
        below = λ k i. elim i [ inl is ↦ (let e = ap height is in omega (arith, e)) | inr is ↦ absurd is ];
        each = λ k i. elim i [
          | inl is ↦ (is, subst (λ y. NotYet (D.given files) (overlaid D.cmp b lent) y) (sym is) not, subst (λ y. Currently (D.given files) (overlaid D.cmp (put_memo D.cmp n b) lent) y) (sym is) (n.finding.stamp, current_over (put_memo D.cmp n b) now_current))
          | inr is ↦ absurd is
        ];
      }

      -- a renewed memo is kept, after what its renewing gained
      pub gain_keep : (fuel after least : ℕ) {a : List (MemoValue K V)} {xs : List K} → Gains D files height lent r (height n.finding.key) 0 (IsBelow D files (overlaid D.cmp a lent) n.finding.key fuel) a b xs
          → IsRenewed D files (found_in D.cmp b) (overlaid D.cmp b lent) n.finding.key fuel n.finding after (least + length xs)
          → (made : List K) × Gains D files height lent r (height n.finding.key + 1) fuel (InReach D files (overlaid D.cmp a lent) n.finding.key fuel) a (put_memo D.cmp n b) made × (after ≤ least + length made)
      gain_keep fuel after least {a} {xs} g renewed = elim renewed.1 [
        | inl p ↦ (
          xs ++ [],
          gain_then (height n.finding.key + 1) (InReach D files (overlaid D.cmp a lent) n.finding.key fuel) g (gain_same fuel (λ k. ⊥) p.0) (omega arith) (omega arith) (λ k y. further y.1 y.2) (λ k y. absurd y),
          (let e = length_both xs [] in let l = p.1 in omega (arith, e, l)),
        )
        | inr p ↦ (
          xs ++ (n.finding.key ∷ []),
          gain_then (height n.finding.key + 1) (InReach D files (overlaid D.cmp a lent) n.finding.key fuel) g (gain_new fuel p.0 p.1) (omega arith) (omega arith) (λ k y. further y.1 y.2)
              (λ k y. subst (λ x. InReach D files (overlaid D.cmp a lent) n.finding.key fuel x) (sym y) itself),
          (let e = length_both xs (n.finding.key ∷ []) in let l = p.2 in omega (arith, e, l)),
        )
      ]
