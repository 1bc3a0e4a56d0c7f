-- What is current by what was found, and what leaves it so.
use Rattle.std.proofs.Common.{◌≡◌, ℕ, Bool, false, Option, Some, None, is_some, List, inl, inr, refl, sym, ◌∙◌, ap, subst}
use Rattle.std.specs.Prelude.{option_map}
use Rattle.std.specs.Arc.{arc_value}
use Rattle.std.specs.declared.sync.Arc.{Arc}
use Rattle.std.specs.declared.cmp.Ordering.{Ordering}
use Rattle.std.specs.declared.cmp.Ordering.TheVariants.{Equal}
use Rattle.sve_store.specs.Made.{IsOneOf}
use Rattle.sve_memo.specs.Memos.{FindingValue, MemoValue, put_memo}
use Rattle.sve_ask.specs.Current.{first_of, found_in, overlaid, IsCurrent, by_input, by_memo}
use Rattle.sve_ask.proofs.Puts.{put_either, put_found}

pub one_some : {A : Type 0} (o : Option A) (a b : A) → o ≡ Some a → o ≡ Some b → a ≡ b
one_some o a b first second = cc

pub none_some : {A : Type 0} (o : Option A) (a : A) → o ≡ None → o ≡ Some a → ⊥
none_some o a none some = absurd (cc)

pub mapped_twice : {A B C : Type 0} (f : A → B) (g : B → C) (o : Option A) → option_map (λ x. g (f x)) o ≡ option_map g (option_map f o)
mapped_twice f g None = refl
mapped_twice f g (Some x) = refl

pub over_fresh : {A : Type 0} (o p : Option A) (x : A) → o ≡ Some x → first_of o p ≡ Some x
over_fresh o p x is = ap (λ y. first_of y p) is

module _ {K V : Type 0} (given : K → Option (V × ℕ)) where
  -- what is current depends on what was found alone
  pub current_along : (a b : K → Option (FindingValue K V)) → ((k : K) → a k ≡ b k) → (k : K) (s : ℕ) → IsCurrent given a k s → IsCurrent given b k s
  current_along a b same k s c = subst (λ found. IsCurrent given found k s) (λ i q. same q i) c

  -- it stays so where more is found
  pub current_more : (a b : K → Option (FindingValue K V)) → ((k : K) (f : FindingValue K V) → a k ≡ Some f → b k ≡ Some f) → {k : K} {s : ℕ} → IsCurrent given a k s → IsCurrent given b k s
  current_more a b more (by_input is) = by_input is
  current_more a b more (by_memo {k = k} {f = f} none found stamp reads) = by_memo none (more k f found) stamp (λ j t i. current_more a b more (reads j t i))

  stamp_in : Option (V × ℕ) → ℕ
  stamp_in None = 0
  stamp_in (Some pair) = pair.1

  -- a key is current with one stamp
  pub current_one : (found : K → Option (FindingValue K V)) {k : K} {s t : ℕ} → IsCurrent given found k s → IsCurrent given found k t → s ≡ t
  unfolding stamp_in
  current_one found (by_input is) (by_input too) = ap stamp_in (sym is ∙ too)
  current_one found (by_input is) (by_memo none there stamp reads) = absurd (cc)
  current_one found (by_memo none there stamp reads) (by_input is) = absurd (cc)
  current_one found {k = k} (by_memo {f = f} none there stamp reads) (by_memo {f = g} none_too there_too stamp_too reads_too) = sym stamp ∙ ap (λ (x : FindingValue K V). x.stamp) (one_some (found k) f g there there_too) ∙ stamp_too

  -- the stamp of a current key that is an input
  pub current_input : (found : K → Option (FindingValue K V)) {k : K} {s : ℕ} → IsCurrent given found k s → (v : V) (u : ℕ) → given k ≡ Some (v, u) → u ≡ s
  unfolding stamp_in
  current_input found (by_input is) v u too = ap stamp_in (sym too ∙ is)
  current_input found (by_memo none there stamp reads) v u is = absurd (cc)

  -- what was found for a current key that is no input
  pub current_found : (found : K → Option (FindingValue K V)) {k : K} {s : ℕ} → IsCurrent given found k s → given k ≡ None → (f : FindingValue K V) × (found k ≡ Some f) × (f.stamp ≡ s) × ((j : K) (t : ℕ) → IsOneOf f.reads (j, t) → IsCurrent given found j t)
  current_found found (by_input is) none = absurd (cc)
  current_found found (by_memo {f = f} none there stamp reads) too = (f, there, stamp, reads)

module _ {K V : Type 0} (cmp : K → K → Ordering) (exact : (a b : K) → cmp a b ≡ Equal → a ≡ b) (itself : (k : K) → cmp k k ≡ Equal) where
  -- a memo that says what was found for its key already adds nothing
  pub overlaid_same : (fresh lent : List (MemoValue K V)) (n : MemoValue K V) → overlaid cmp fresh lent n.finding.key ≡ Some n.finding → (k : K) → overlaid cmp (put_memo cmp n fresh) lent k ≡ overlaid cmp fresh lent k
  overlaid_same fresh lent n is k = elim (put_either cmp exact itself n fresh k) [
    | inl same ↦ (ap (overlaid cmp (put_memo cmp n fresh) lent) (sym same) ∙ over_fresh (found_in cmp (put_memo cmp n fresh) n.finding.key) (found_in cmp lent n.finding.key) n.finding (put_found cmp exact itself n fresh) ∙ sym is ∙ ap (overlaid cmp fresh lent) same)
    | inr other ↦ ap (λ o. first_of o (found_in cmp lent k)) other
  ]

-- ---- what `input` answers, and what was found, in the words of the definitions

module _ {K V A : Type 0} (given : K → Option (V × ℕ)) (k : K) (input : Option (Arc V A × ℕ)) (is : option_map (λ (pair : Arc V A × ℕ). (arc_value pair.0, pair.1)) input ≡ given k) where
  pub given_is : (value : Arc V A) (stamp : ℕ) → input ≡ Some (value, stamp) → given k ≡ Some (arc_value value, stamp)
  given_is value stamp some = sym is ∙ ap (λ o. option_map (λ (pair : Arc V A × ℕ). (arc_value pair.0, pair.1)) o) some

  pub given_none : input ≡ None → given k ≡ None
  given_none none = sym is ∙ ap (λ o. option_map (λ (pair : Arc V A × ℕ). (arc_value pair.0, pair.1)) o) none

pub not_given : {V : Type 0} (given : Option (V × ℕ)) (is_input : Bool) → is_some given ≡ is_input → is_input ≡ false → given ≡ None
not_given None is_input same not = refl
not_given (Some pair) is_input same not = absurd (cc)

pub no_value : {V : Type 0} (given : Option (V × ℕ)) → given ≡ None → option_map (λ (pair : V × ℕ). pair.0) given ≡ None
no_value {V} given none = ap (option_map (λ (pair : V × ℕ). pair.0)) none

module _ {K V : Type 0} (o : Option (MemoValue K V)) (found : Option (FindingValue K V)) (is : option_map (λ (m : MemoValue K V). m.finding) o ≡ found) where
  pub found_is : (m : MemoValue K V) → o ≡ Some m → found ≡ Some m.finding
  found_is m some = sym is ∙ ap (option_map (λ (m : MemoValue K V). m.finding)) some

  pub found_none : o ≡ None → found ≡ None
  found_none none = sym is ∙ ap (option_map (λ (m : MemoValue K V). m.finding)) none
