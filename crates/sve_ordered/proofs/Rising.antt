-- A list that rises is told by its members.
use Rattle.std.proofs.Common.{◌≡◌, ◌⊎◌, ◌↔◌, ℕ, zero, suc, ◌+◌, Bool, true, false, cond, List, [], ◌∷◌, refl, sym, ap, ◌∙◌, subst, inl, inr, arith}
use Rattle.std.specs.Cmp.{IsTotalOrder, tied_itself}
use Rattle.std.specs.List.{Contains, dedup, dedup_from, slice_index_or}
use Rattle.std.specs.List.Sorted.{IsPermutation, IsSorted}
use Rattle.std.specs.Ordering.{eq_by_cmp, is_eq, is_lt, ordering_reverse, match_ordering}
use Rattle.std.specs.declared.cmp.Ordering.{Ordering}
use Rattle.std.specs.declared.cmp.Ordering.TheVariants.{Less, Equal, Greater}
use Rattle.std.proofs.lemmas.List.Sorted.{Contains-permutation, IsPermutation-sym}
use Rattle.sve_ordered.specs.Ordered.{with_one, ordered}

abbrev pub In : {X : Type 0} → X → List X → Type 0
In z [] = ⊥
In z (x ∷ xs) = (z ≡ x) ⊎ In z xs

module _ {X : Type 0} where
  pub held : (xs : List X) (z : X) → In z xs → Contains xs z
  held [] z i = absurd i
  held (x ∷ xs) z (inl e) = (0, omega arith, sym e)
  held (x ∷ xs) z (inr i) = let c = held xs z i in (suc c.0, omega (arith, c.1), c.2)

  pub within : (xs : List X) (z : X) → Contains xs z → In z xs
  within [] z (k, low, is) = absurd (omega (arith, low))
  within (x ∷ xs) z (zero, low, is) = inl (sym is)
  within (x ∷ xs) z (suc k, low, is) = inr (within xs z (k, omega (arith, low), is))

module _ {X : Type 0} (cmp : X → X → Ordering) (total : IsTotalOrder cmp) (exact : (a b : X) → cmp a b ≡ Equal → a ≡ b) where
  abbrev AllAbove : X → List X → Type 0
  AllAbove x [] = Unit {0}
  AllAbove x (y ∷ ys) = (cmp x y ≡ Less) × AllAbove x ys

  abbrev Rises : List X → Type 0
  Rises [] = Unit {0}
  Rises (x ∷ xs) = AllAbove x xs × Rises xs

  above_in : (x z : X) (ys : List X) → AllAbove x ys → In z ys → cmp x z ≡ Less
  above_in x z [] a i = absurd i
  above_in x z (y ∷ ys) a (inl e) = ap (cmp x) e ∙ a.0
  above_in x z (y ∷ ys) a (inr i) = above_in x z ys a.1 i

  not_itself : (x : X) → cmp x x ≡ Less → ⊥
  not_itself x e = let t : cmp x x ≡ Equal = tied_itself total x in cc

  not_both : (x y : X) → cmp x y ≡ Less → cmp y x ≡ Less → ⊥
  not_both x y e f = not_itself x (total.trans x y x e f)

  first_one : (x y : X) (xs ys : List X) → AllAbove x xs → AllAbove y ys → In x (y ∷ ys) → In y (x ∷ xs) → x ≡ y
  first_one x y xs ys a b (inl e) j = e
  first_one x y xs ys a b (inr i) (inl e) = sym e
  first_one x y xs ys a b (inr i) (inr j) = absurd (not_both x y (above_in x y xs a j) (above_in y x ys b i))

  later : (x y z : X) (xs ys : List X) → x ≡ y → AllAbove x xs → In z xs → In z (y ∷ ys) → In z ys
  later x y z xs ys e a i (inl f) = absurd (not_itself x (ap (cmp x) (e ∙ sym f) ∙ above_in x z xs a i))
  later x y z xs ys e a i (inr j) = j

  pub one_list : (xs ys : List X) → Rises xs → Rises ys → ((z : X) → In z xs → In z ys) → ((z : X) → In z ys → In z xs) → xs ≡ ys
  one_list [] [] r s f g = refl
  one_list [] (y ∷ ys) r s f g = absurd (g y (inl refl))
  one_list (x ∷ xs) [] r s f g = absurd (f x (inl refl))
  one_list (x ∷ xs) (y ∷ ys) r s f g =
      let e : x ≡ y = first_one x y xs ys r.0 s.0 (f x (inl refl)) (g y (inl refl)) in
      let rest : xs ≡ ys = one_list xs ys r.1 s.1 (λ z i. later x y z xs ys e r.0 i (f z (inr i))) (λ z i. later y x z ys xs (sym e) s.0 i (g z (inr i))) in
      λ i. e i ∷ rest i

  -- putting one in keeps the rest in order
  above_trans : (x y : X) (ys : List X) → cmp x y ≡ Less → AllAbove y ys → AllAbove x ys
  above_trans x y [] e a = tt
  above_trans x y (z ∷ ys) e a = (total.trans x y z e a.0, above_trans x y ys e a.1)

  turned : (x y : X) → cmp x y ≡ Greater → cmp y x ≡ Less
  turned x y e = total.antisymm y x ∙ ap ordering_reverse e

  above_by : (w x y : X) (ys : List X) → cmp w x ≡ Less → AllAbove w (y ∷ ys) → AllAbove w (with_one cmp x ys) → (o : Ordering) → AllAbove w (match_ordering o (x ∷ y ∷ ys) (y ∷ ys) (y ∷ with_one cmp x ys))
  above_by w x y ys e a rest Less = (e, a)
  above_by w x y ys e a rest Equal = a
  above_by w x y ys e a rest Greater = (a.0, rest)

  above_one : (w x : X) (ys : List X) → cmp w x ≡ Less → AllAbove w ys → AllAbove w (with_one cmp x ys)
  above_one w x [] e a = (e, tt)
  above_one w x (y ∷ ys) e a = above_by w x y ys e a (above_one w x ys e a.1) (cmp x y)

  rises_by : (x y : X) (ys : List X) → Rises (y ∷ ys) → Rises (with_one cmp x ys) → (o : Ordering) → cmp x y ≡ o → Rises (match_ordering o (x ∷ y ∷ ys) (y ∷ ys) (y ∷ with_one cmp x ys))
  rises_by x y ys r rest Less e = ((e, above_trans x y ys e r.0), r)
  rises_by x y ys r rest Equal e = r
  rises_by x y ys r rest Greater e = (above_one y x ys (turned x y e) r.0, rest)

  one_rises : (x : X) (ys : List X) → Rises ys → Rises (with_one cmp x ys)
  one_rises x [] r = (tt, tt)
  one_rises x (y ∷ ys) r = rises_by x y ys r (one_rises x ys r.1) (cmp x y) refl

  past : (z x y : X) (ys : List X) → In z (x ∷ ys) → In z (x ∷ y ∷ ys)
  past z x y ys (inl e) = inl e
  past z x y ys (inr i) = inr (inr i)

  in_by : (x z y : X) (ys : List X) → (In z (with_one cmp x ys) → In z (x ∷ ys)) → (o : Ordering) → In z (match_ordering o (x ∷ y ∷ ys) (y ∷ ys) (y ∷ with_one cmp x ys)) → In z (x ∷ y ∷ ys)
  in_by x z y ys rest Less i = i
  in_by x z y ys rest Equal i = inr i
  in_by x z y ys rest Greater (inl e) = inr (inl e)
  in_by x z y ys rest Greater (inr i) = past z x y ys (rest i)

  one_in : (x z : X) (ys : List X) → In z (with_one cmp x ys) → In z (x ∷ ys)
  one_in x z [] i = i
  one_in x z (y ∷ ys) i = in_by x z y ys (one_in x z ys) (cmp x y) i

  by_in : (x z y : X) (ys : List X) → (In z (x ∷ ys) → In z (with_one cmp x ys)) → (o : Ordering) → cmp x y ≡ o → In z (x ∷ y ∷ ys) → In z (match_ordering o (x ∷ y ∷ ys) (y ∷ ys) (y ∷ with_one cmp x ys))
  by_in x z y ys rest Less e i = i
  by_in x z y ys rest Equal e (inl f) = inl (f ∙ exact x y e)
  by_in x z y ys rest Equal e (inr i) = i
  by_in x z y ys rest Greater e (inl f) = inr (rest (inl f))
  by_in x z y ys rest Greater e (inr (inl f)) = inl f
  by_in x z y ys rest Greater e (inr (inr i)) = inr (rest (inr i))

  in_one : (x z : X) (ys : List X) → In z (x ∷ ys) → In z (with_one cmp x ys)
  in_one x z [] i = i
  in_one x z (y ∷ ys) i = by_in x z y ys (in_one x z ys) (cmp x y) refl i

  pub ordered_rises : (xs : List X) → Rises (ordered cmp xs)
  ordered_rises [] = tt
  ordered_rises (x ∷ xs) = one_rises x (ordered cmp xs) (ordered_rises xs)

  kept_in : (x z : X) (xs ys : List X) → (In z ys → In z xs) → In z (x ∷ ys) → In z (x ∷ xs)
  kept_in x z xs ys f (inl e) = inl e
  kept_in x z xs ys f (inr i) = inr (f i)

  pub ordered_in : (xs : List X) (z : X) → In z (ordered cmp xs) → In z xs
  ordered_in [] z i = i
  ordered_in (x ∷ xs) z i = kept_in x z xs (ordered cmp xs) (ordered_in xs z) (one_in x z (ordered cmp xs) i)

  pub in_ordered : (xs : List X) (z : X) → In z xs → In z (ordered cmp xs)
  in_ordered [] z i = i
  in_ordered (x ∷ xs) z (inl e) = in_one x z (ordered cmp xs) (inl e)
  in_ordered (x ∷ xs) z (inr i) = in_one x z (ordered cmp xs) (inr (in_ordered xs z i))

  -- of what is sorted, each once
  module _ (same : X → X → Bool) (ties : (x y : X) → same x y ≡ eq_by_cmp cmp x y) where
    tail_sorted : (x : X) (xs : List X) → IsSorted cmp (x ∷ xs) → IsSorted cmp xs
    tail_sorted x xs h = λ k d low high.
        let s : suc k + 1 ≡ suc (k + 1) = omega arith in
        let P : ℕ → Type 0 = λ n. is_lt (cmp (slice_index_or (x ∷ xs) n d) (slice_index_or xs k d)) ≡ false in
        subst P s (h (suc k) d (omega arith) (omega (arith, high)))

    heads_sorted : (x y : X) (xs : List X) → IsSorted cmp (x ∷ y ∷ xs) → is_lt (cmp y x) ≡ false
    heads_sorted x y xs h = h 0 x (omega arith) (omega arith)

    not_less : true ≡ false → ⊥
    not_less e = cc

    abbrev RisesFrom : X → List X → Type 0
    RisesFrom k all = Rises all × ((w : X) → cmp w k ≡ Less → AllAbove w all)

    once_by : (k x : X) (xs : List X) → IsSorted cmp (k ∷ x ∷ xs) → (IsSorted cmp (k ∷ xs) → RisesFrom k (dedup_from same k xs)) → (IsSorted cmp (x ∷ xs) → RisesFrom x (dedup_from same x xs))
        → (o : Ordering) → cmp x k ≡ o → RisesFrom k (cond (is_eq o) (dedup_from same k xs) (k ∷ dedup_from same x xs))
    once_by k x xs h on off Less e = let n : is_lt (cmp x k) ≡ false = heads_sorted k x xs h in absurd (not_less (sym (ap is_lt e) ∙ n))
    once_by k x xs h on off Equal e = on (subst (λ (y : X). IsSorted cmp (y ∷ xs)) (exact x k e) (tail_sorted k (x ∷ xs) h))
    once_by k x xs h on off Greater e =
        let rest = off (tail_sorted k (x ∷ xs) h) in
        let low : cmp k x ≡ Less = turned x k e in
        ((rest.1 k low, rest.0), λ w f. (f, rest.1 w (total.trans w k x f low)))

    once_rises : (xs : List X) (k : X) → IsSorted cmp (k ∷ xs) → RisesFrom k (dedup_from same k xs)
    once_rises [] k h = ((tt, tt), λ w e. (e, tt))
    once_rises (x ∷ xs) k h =
        subst (λ (b : Bool). RisesFrom k (cond b (dedup_from same k xs) (k ∷ dedup_from same x xs))) (sym (ties x k)) (once_by k x xs h (once_rises xs k) (once_rises xs x) (cmp x k) refl)

    once_in_by : (k z x : X) (xs : List X) → (In z (dedup_from same k xs) → In z (k ∷ xs)) → (In z (dedup_from same x xs) → In z (x ∷ xs)) → (b : Bool) → In z (cond b (dedup_from same k xs) (k ∷ dedup_from same x xs)) → In z (k ∷ x ∷ xs)
    once_in_by k z x xs on off true i = past z k x xs (on i)
    once_in_by k z x xs on off false (inl e) = inl e
    once_in_by k z x xs on off false (inr i) = inr (off i)

    once_in : (xs : List X) (k z : X) → In z (dedup_from same k xs) → In z (k ∷ xs)
    once_in [] k z i = i
    once_in (x ∷ xs) k z i = once_in_by k z x xs (once_in xs k z) (once_in xs x z) (same x k) i

    in_once_by : (k z x : X) (xs : List X) → (In z (k ∷ xs) → In z (dedup_from same k xs)) → (In z (x ∷ xs) → In z (dedup_from same x xs)) → (o : Ordering) → cmp x k ≡ o → In z (k ∷ x ∷ xs) → In z (cond (is_eq o) (dedup_from same k xs) (k ∷ dedup_from same x xs))
    in_once_by k z x xs on off Less e (inl f) = inl f
    in_once_by k z x xs on off Less e (inr i) = inr (off i)
    in_once_by k z x xs on off Equal e (inl f) = on (inl f)
    in_once_by k z x xs on off Equal e (inr (inl f)) = on (inl (f ∙ exact x k e))
    in_once_by k z x xs on off Equal e (inr (inr i)) = on (inr i)
    in_once_by k z x xs on off Greater e (inl f) = inl f
    in_once_by k z x xs on off Greater e (inr i) = inr (off i)

    in_once : (xs : List X) (k z : X) → In z (k ∷ xs) → In z (dedup_from same k xs)
    in_once [] k z i = i
    in_once (x ∷ xs) k z i =
        subst (λ (b : Bool). In z (cond b (dedup_from same k xs) (k ∷ dedup_from same x xs))) (sym (ties x k)) (in_once_by k z x xs (in_once xs k z) (in_once xs x z) (cmp x k) refl i)

    all_rises : (xs : List X) → IsSorted cmp xs → Rises (dedup same xs)
    all_rises [] h = tt
    all_rises (x ∷ xs) h = (once_rises xs x h).0

    all_in : (xs : List X) (z : X) → In z (dedup same xs) → In z xs
    all_in [] z i = i
    all_in (x ∷ xs) z i = once_in xs x z i

    in_all : (xs : List X) (z : X) → In z xs → In z (dedup same xs)
    in_all [] z i = i
    in_all (x ∷ xs) z i = in_once xs x z i

    moved : (xs ys : List X) (z : X) → IsPermutation xs ys → In z xs → In z ys
    moved xs ys z p i = within ys z (Contains-permutation xs ys z p (held xs z i))

    -- what is sorted with the same elements, each once, is in order
    pub is_ordered : (xs ys zs : List X) → IsPermutation xs ys → IsSorted cmp ys → zs ≡ dedup same ys → zs ≡ ordered cmp xs
    is_ordered xs ys zs p s e = e ∙ one_list (dedup same ys) (ordered cmp xs) (all_rises ys s) (ordered_rises xs)
        (λ z i. in_ordered xs z (moved ys xs z (IsPermutation-sym xs ys p) (all_in ys z i)))
        (λ z i. in_all ys z (moved xs ys z p (ordered_in xs z i)))

  -- lists with the same members are one in order
  pub members_decide : (xs ys : List X) → ((z : X) → Contains xs z ↔ Contains ys z) → ordered cmp xs ≡ ordered cmp ys
  members_decide xs ys h = one_list (ordered cmp xs) (ordered cmp ys) (ordered_rises xs) (ordered_rises ys)
      (λ z i. in_ordered ys z (within ys z ((h z).0 (held xs z (ordered_in xs z i)))))
      (λ z i. in_ordered xs z (within xs z ((h z).1 (held ys z (ordered_in ys z i)))))
