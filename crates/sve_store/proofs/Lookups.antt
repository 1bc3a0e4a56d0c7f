-- What told keys hold once one more is told, and how many of some keys are then untold.
use Rattle.std.proofs.Common.{◌≡◌, ◌⊎◌, ℕ, suc, ◌<◌, ◌≤◌, cond, List, [], ◌∷◌, ◌++◌, Option, Some, None, is_some, inl, inr, refl, sym, ap, ◌∙◌, arith}
use Rattle.std.specs.declared.cmp.Ordering.{Ordering}
use Rattle.std.specs.declared.cmp.Ordering.TheVariants.{Less, Equal, Greater}
use Rattle.std.specs.Ordering.{match_ordering}
use Rattle.sve_store.specs.Made.{value_in, IsOneOf, untold}

module _ {V : Type 0} where
  -- what a key holds is the value x where the order is Equal, else what the others hold
  abbrev held : Ordering → V → Option V → Option V
  held o x others = match_ordering o others (Some x) others

  held-stays : (o : Ordering) (x w : V) (before after : Option V) → (before ≡ Some w → after ≡ Some w) → held o x before ≡ Some w → held o x after ≡ Some w
  held-stays Less x w before after stays is = stays is
  held-stays Equal x w before after stays is = is
  held-stays Greater x w before after stays is = stays is

  held-none : (o : Ordering) (x : V) (before after last : Option V) → (before ≡ None → after ≡ last) → held o x before ≡ None → held o x after ≡ last
  held-none Less x before after last next is = next is
  held-none Equal x before after last next is = absurd (cc)
  held-none Greater x before after last next is = next is

  held-parts : (o : Ordering) (x w : V) (before after : Option V) (Last : Type 0) → (after ≡ Some w → (before ≡ Some w) ⊎ Last) → held o x after ≡ Some w → (held o x before ≡ Some w) ⊎ Last
  held-parts Less x w before after Last parts is = parts is
  held-parts Equal x w before after Last parts is = inl is
  held-parts Greater x w before after Last parts is = parts is

  held-alone : (o : Ordering) (x w : V) → held o x None ≡ Some w → (o ≡ Equal) × (x ≡ w)
  held-alone Less x w is = absurd (cc)
  held-alone Equal x w is = (refl, cc)
  held-alone Greater x w is = absurd (cc)

module _ {K V : Type 0} (cmp : K → K → Ordering) (one : K × V) (k : K) where
  pub value-last : (told : List (K × V)) → value_in cmp told k ≡ None → value_in cmp (told ++ one ∷ []) k ≡ held (cmp k one.0) one.1 None
  value-last [] none = refl
  value-last (x ∷ told) none = held-none (cmp k x.0) x.1 (value_in cmp told k) (value_in cmp (told ++ one ∷ []) k) (held (cmp k one.0) one.1 None) (value-last told) none

  pub value-stays : (told : List (K × V)) (w : V) → value_in cmp told k ≡ Some w → value_in cmp (told ++ one ∷ []) k ≡ Some w
  value-stays [] w is = absurd (cc)
  value-stays (x ∷ told) w is = held-stays (cmp k x.0) x.1 w (value_in cmp told k) (value_in cmp (told ++ one ∷ []) k) (value-stays told w) is

  pub value-parts : (told : List (K × V)) (w : V) → value_in cmp (told ++ one ∷ []) k ≡ Some w → (value_in cmp told k ≡ Some w) ⊎ ((cmp k one.0 ≡ Equal) × (one.1 ≡ w))
  value-parts [] w is = inr (held-alone (cmp k one.0) one.1 w is)
  value-parts (x ∷ told) w is =
      held-parts (cmp k x.0) x.1 w (value_in cmp told k) (value_in cmp (told ++ one ∷ []) k) ((cmp k one.0 ≡ Equal) × (one.1 ≡ w)) (value-parts told w) is

-- ---- how many are untold

module _ {V : Type 0} where
  no_more : (before after : Option V) (m n : ℕ) → ((w : V) → before ≡ Some w → after ≡ Some w) → n ≤ m → cond (is_some after) n (suc n) ≤ cond (is_some before) m (suc m)
  no_more None None m n stays le = omega arith
  no_more None (Some v) m n stays le = omega arith
  no_more (Some w) None m n stays le = absurd (let told = stays w refl in cc)
  no_more (Some w) (Some v) m n stays le = le

  one_less : (before after : Option V) (m n : ℕ) → ((w : V) → before ≡ Some w → after ≡ Some w) → n < m → cond (is_some after) n (suc n) < cond (is_some before) m (suc m)
  one_less None None m n stays lt = omega arith
  one_less None (Some v) m n stays lt = omega arith
  one_less (Some w) None m n stays lt = absurd (let told = stays w refl in cc)
  one_less (Some w) (Some v) m n stays lt = lt

  less_here : (before after : Option V) (w : V) (m n : ℕ) → before ≡ None → after ≡ Some w → n ≤ m → cond (is_some after) n (suc n) < cond (is_some before) m (suc m)
  less_here None None w m n none told le = absurd (cc)
  less_here None (Some v) w m n none told le = omega arith
  less_here (Some v) after w m n none told le = absurd (cc)

module _ {K V : Type 0} (before after : K → Option V) (stays : (k : K) (w : V) → before k ≡ Some w → after k ≡ Some w) where
  untold-le : (ks : List K) → untold after ks ≤ untold before ks
  untold-le [] = omega arith
  untold-le (k ∷ ks) = no_more (before k) (after k) (untold before ks) (untold after ks) (stays k) (untold-le ks)

  untold-less : (j : K) (w : V) → before j ≡ None → after j ≡ Some w → (ks : List K) → IsOneOf ks j → untold after ks < untold before ks
  untold-less j w none told [] there = absurd there
  untold-less j w none told (k ∷ ks) (inl same) = less_here (before k) (after k) w (untold before ks) (untold after ks) (ap before (sym same) ∙ none) (ap after (sym same) ∙ told) (untold-le ks)
  untold-less j w none told (k ∷ ks) (inr there) = one_less (before k) (after k) (untold before ks) (untold after ks) (stays k) (untold-less j w none told ks there)

-- a key that was not told is told, so fewer of some keys that hold it are untold
pub untold-falls : {K V : Type 0} (cmp : K → K → Ordering) → ((k : K) → cmp k k ≡ Equal) → (told : List (K × V)) (j : K) (w : V) (ks : List K) → value_in cmp told j ≡ None → IsOneOf ks j
    → untold (value_in cmp (told ++ ((j, w) ∷ []))) ks < untold (value_in cmp told) ks
untold-falls {K} {V} cmp itself told j w ks none there =
    untold-less (value_in cmp told) (value_in cmp (told ++ ((j, w) ∷ []))) (λ k v is. value-stays cmp (j, w) k told v is) j w none
    (value-last cmp (j, w) j told none ∙ ap (λ o. held o w None) (itself j)) ks there
