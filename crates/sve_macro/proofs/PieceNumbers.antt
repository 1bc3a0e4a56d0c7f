-- Pieces that are named by their numbers.
use Rattle.std.proofs.Common.{◌≡◌, ℕ, zero, suc, ◌+◌, ◌-◌, ◌<◌, ◌≤◌, ◌⊎◌, inl, inr, List, [], ◌∷◌, ◌++◌, length, drop, get_or, refl, ap, sym, subst, ◌∙◌, arith, get_or-drop}
use Rattle.std.specs.Global.{Vec}
use Rattle.std.specs.List.{All, AllPairs, Contains, flat_map}
use Rattle.std.specs.List.Sorted.{IsStrictlyIncreasing}
use Rattle.std.proofs.Math.Seq.{drop-length}
use Rattle.std.proofs.lemmas.List.{drop-drop, drop_more, get_or_default}
use Rattle.std.proofs.lemmas.List.Concat.{flat_map-cons}
use Rattle.std.proofs.lemmas.List.Elements.{All-contains, All-push, All-append, Contains-append_left, Contains-append_right, Contains-push, Contains-get_or}
use Rattle.std.proofs.lemmas.List.Kept.{AllPairs-from_increasing}
use Rattle.sve_macro.specs.declared.piece_numbers.PieceNumbers.{PieceNumbers}
use Rattle.sve_macro.specs.declared.template.Piece.{Piece}
use Rattle.sve_macro.specs.Numbers.{WaitsFor, IsListed, AreNumbered, Gathers, Covers}
use Rattle.sve_macro.specs.Substitution.{Formal, actual_at}
use Rattle.sve_macro.specs.Template.{value_at, piece_value}

-- pieces in front that give nothing can be left out
nothing_first : (value : Piece → List ℕ) (ps : List Piece) (n : ℕ) → ((i : ℕ) (d : Piece) → i < n → i < length ps → value (get_or ps i d) ≡ []) → flat_map value (drop n ps) ≡ flat_map value ps
nothing_first value ps zero h = refl
nothing_first value [] (suc n) h = refl
nothing_first value (p ∷ ps) (suc n) h =
    nothing_first value ps n (λ i d a b. h (suc i) d (omega arith) (omega arith))
    ∙ sym (flat_map-cons value p ps ∙ ap (λ x. x ++ flat_map value ps) (h zero p (omega arith) (omega arith)))

nothing_between : (value : Piece → List ℕ) (ps : List Piece) (from to : ℕ) → from ≤ to → ((i : ℕ) (d : Piece) → from ≤ i → i < to → value (get_or ps i d) ≡ []) →
    flat_map value (drop from ps) ≡ flat_map value (drop to ps)
nothing_between value ps from to a h =
    let there : from + (to - from) ≡ to = omega arith in
    sym (nothing_first value (drop from ps) (to - from) (λ i d p q. subst (λ (x : Piece). value x ≡ []) (sym (get_or-drop from ps i d)) (h (from + i) d (omega arith) (omega arith))))
    ∙ ap (flat_map value) (drop-drop (to - from) from ps ∙ ap (λ n. drop n ps) there)

first_or_later : (k n i : ℕ) (ns : List ℕ) → k < length (n ∷ ns) → get_or (n ∷ ns) k i ≡ i → (n ≡ i) ⊎ Contains ns i
first_or_later zero n i ns l e = inl e
first_or_later (suc k) n i ns l e = inr (k, omega arith, e)

left_of : {A B : Type 0} → (B → ⊥) → A ⊎ B → A
left_of f (inl a) = a
left_of f (inr b) = absurd (f b)

right_of : {A B : Type 0} → (A → ⊥) → A ⊎ B → B
right_of f (inl a) = absurd (f a)
right_of f (inr b) = b

mapped : {A B C D : Type 0} → (A → C) → (B → D) → A ⊎ B → C ⊎ D
mapped f g (inl a) = inl (f a)
mapped f g (inr b) = inr (g b)

none_in_nothing : (i : ℕ) → Contains [] i → ⊥
none_in_nothing i c = let l : c.0 < 0 = c.1 in omega arith

not_before : (n i : ℕ) (ns : List ℕ) → i < n → All (λ m. n < m) ns → Contains (n ∷ ns) i → ⊥
not_before n i ns l later c = below (first_or_later c.0 n i ns c.1 c.2)
  where
    below : (n ≡ i) ⊎ Contains ns i → ⊥
    below (inl e) = omega arith
    below (inr r) = let m : n < i = All-contains (λ m. n < m) ns i later r in omega arith

later_only : (n i : ℕ) (ns : List ℕ) → n < i → Contains (n ∷ ns) i → Contains ns i
later_only n i ns l c = right_of (λ (e : n ≡ i). omega arith) (first_or_later c.0 n i ns c.1 c.2)

-- the pieces of rising numbers, which all that give something from a place on are among
those_from : (value : Piece → List ℕ) (ps : List Piece) (d : Piece) (ns : List ℕ) (from : ℕ) → from ≤ length ps → AllPairs (λ x y. x < y) ns → All (λ n. from ≤ n) ns → All (λ n. n < length ps) ns →
    ((i : ℕ) (e : Piece) → from ≤ i → i < length ps → (value (get_or ps i e) ≡ []) ⊎ Contains ns i) → flat_map (λ n. value (get_or ps n d)) ns ≡ flat_map value (drop from ps)
those_from value ps d [] from a pairs low below others =
    sym (nothing_between value ps from (length ps) a (λ i e p q. left_of (none_in_nothing i) (others i e p q)) ∙ ap (flat_map value) (drop-length ps))
those_from value ps d (n ∷ ns) from a pairs low below others =
    let inside : n < length ps = below 0 n (omega arith) in
    let far : from ≤ n = low 0 n (omega arith) in
    let later : All (λ m. n < m) ns = λ k e l. pairs 0 (suc k) e (omega arith) (omega arith) in
    flat_map-cons (λ m. value (get_or ps m d)) n ns
    ∙ ap (λ x. value (get_or ps n d) ++ x)
    (those_from value ps d ns (n + 1) (omega arith) (λ i j e p q. pairs (suc i) (suc j) e (omega arith) (omega arith)) (λ k e l. omega (arith, later k e l)) (λ k e l. below (suc k) e (omega arith))
    (λ i e p q. mapped (λ x. x) (later_only n i ns (omega arith)) (others i e (omega arith) q)))
    ∙ sym (nothing_between value ps from n far (λ i e p q. left_of (not_before n i ns q later) (others i e p (omega arith)))
    ∙ ap (flat_map value) (drop_more ps n d inside) ∙ flat_map-cons value (get_or ps n d) (drop (n + 1) ps))

-- what the pieces give that cover all, in the order of their numbers, is what all give
pub covered : (value : Piece → List ℕ) (ps : List Piece) (d : Piece) (ns : List ℕ) → Covers value ps ns → flat_map (λ n. value (get_or ps n d)) ns ≡ flat_map value ps
covered value ps d ns c =
    those_from value ps d ns 0 (omega arith) (AllPairs-from_increasing ns c.rise) (λ k e l. omega arith) c.below (λ i e p q. c.others i e q)

last_or_before : (k n : ℕ) → k < n + 1 → (k < n) ⊎ (k ≡ n)
last_or_before zero zero l = inr refl
last_or_before zero (suc n) l = inl (omega arith)
last_or_before (suc k) zero l = absurd (omega arith)
last_or_before (suc k) (suc n) l = mapped (λ (p : k < n). let q : suc k < suc n = omega arith in q) (ap suc) (last_or_before k n (omega arith))

-- the next piece is listed, in a list or with those that give something in each use
each_more : (formals : List Formal) (ps : List Piece) (count : ℕ) (old new : PieceNumbers) →
    ((n : ℕ) → Contains old.always.items n → Contains new.always.items n) → ((n : ℕ) → IsListed formals ps old.by_formal.items n → IsListed formals ps new.by_formal.items n) →
    (Contains new.always.items count ⊎ IsListed formals ps new.by_formal.items count) → ((k : ℕ) → k < count → Contains old.always.items k ⊎ IsListed formals ps old.by_formal.items k) →
    (k : ℕ) → k < count + 1 → Contains new.always.items k ⊎ IsListed formals ps new.by_formal.items k
each_more formals ps count old new f g here before k l = at (last_or_before k count l)
  where
    at : (k < count) ⊎ (k ≡ count) → Contains new.always.items k ⊎ IsListed formals ps new.by_formal.items k
    at (inl p) = mapped (f k) (g k) (before k p)
    at (inr e) = subst (λ (n : ℕ). Contains new.always.items n ⊎ IsListed formals ps new.by_formal.items n) (sym e) here

pub always_more : (formals : List Formal) (ps : List Piece) (count : ℕ) (old new : PieceNumbers) → AreNumbered formals ps count old → count < length ps →
    new.always.items ≡ old.always.items ++ count ∷ [] → new.by_formal ≡ old.by_formal → AreNumbered formals ps (count + 1) new
always_more formals ps count old new h inside e same =
    let lists : new.by_formal.items ≡ old.by_formal.items = ap (λ (v : Vec (Vec ℕ)). v.items) same in
    record {
      each = each_more formals ps count old new
          (λ n c. subst (λ (ns : List ℕ). Contains ns n) (sym e) (Contains-append_left old.always.items (count ∷ []) n c))
          (λ n c. subst (λ (ls : List (Vec ℕ)). IsListed formals ps ls n) (sym lists) c)
          (inl (subst (λ (ns : List ℕ). Contains ns count) (sym e) (Contains-push old.always.items count)))
          h.each;
      places = ap length lists ∙ h.places;
      always = subst (λ (ns : List ℕ). All (λ n. n < length ps) ns) (sym e) (All-push (λ n. n < length ps) old.always.items count h.always inside);
      lists = subst (λ (ls : List (Vec ℕ)). (place : ℕ) (d : Vec ℕ) → place < length ls → All (λ n. n < length ps) (get_or ls place d).items) (sym lists) h.lists;
    }

same_place : (a b : ℕ) → (a ≡ b) ⊎ (a ≡ b → ⊥)
same_place zero zero = inl refl
same_place zero (suc b) = inr (λ e. omega arith)
same_place (suc a) zero = inr (λ e. omega arith)
same_place (suc a) (suc b) = mapped (ap suc) (λ (f : a ≡ b → ⊥). λ (e : suc a ≡ suc b). f (omega arith)) (same_place a b)

pub listed_more : (formals : List Formal) (ps : List Piece) (count place : ℕ) (old new : PieceNumbers) → AreNumbered formals ps count old → count < length ps → place < length old.by_formal.items →
    new.always ≡ old.always → length new.by_formal.items ≡ length old.by_formal.items →
    ((d : Vec ℕ) → (get_or new.by_formal.items place d).items ≡ (get_or old.by_formal.items place d).items ++ count ∷ []) →
    ((other : ℕ) (d : Vec ℕ) → (other ≡ place → ⊥) → get_or new.by_formal.items other d ≡ get_or old.by_formal.items other d) →
    ((d : Piece) → WaitsFor formals (get_or ps count d) place) → AreNumbered formals ps (count + 1) new
listed_more formals ps count place old new h inside known same size added others alone =
    let always : new.always.items ≡ old.always.items = ap (λ (v : Vec ℕ). v.items) same in
    record {
      each = each_more formals ps count old new
          (λ n c. subst (λ (ns : List ℕ). Contains ns n) (sym always) c)
          (λ n c. record {
            place = c.place;
            known = let k : c.place < length old.by_formal.items = c.known in omega arith;
            listed = λ d. kept n c.place d (c.listed d) (same_place c.place place);
            waits = c.waits;
          })
          (inr (record {
            place = place;
            known = omega arith;
            listed = λ d. subst (λ (ns : List ℕ). Contains ns count) (sym (added d)) (Contains-push (get_or old.by_formal.items place d).items count);
            waits = alone;
          }))
          h.each;
      places = size ∙ h.places;
      always = subst (λ (ns : List ℕ). All (λ n. n < length ps) ns) (sym always) h.always;
      lists = λ p d l. below p d (omega arith) (same_place p place);
    }
  where
    kept : (n p : ℕ) (d : Vec ℕ) → Contains (get_or old.by_formal.items p d).items n → (p ≡ place) ⊎ (p ≡ place → ⊥) → Contains (get_or new.by_formal.items p d).items n
    kept n p d c (inl e) =
        subst (λ (q : ℕ). Contains (get_or new.by_formal.items q d).items n) (sym e)
        (subst (λ (ns : List ℕ). Contains ns n) (sym (added d)) (Contains-append_left (get_or old.by_formal.items place d).items (count ∷ []) n (subst (λ (q : ℕ). Contains (get_or old.by_formal.items q d).items n) e c)))
    kept n p d c (inr f) = subst (λ (v : Vec ℕ). Contains v.items n) (sym (others p d f)) c

    below : (p : ℕ) (d : Vec ℕ) → p < length old.by_formal.items → (p ≡ place) ⊎ (p ≡ place → ⊥) → All (λ n. n < length ps) (get_or new.by_formal.items p d).items
    below p d l (inl e) =
        subst (λ (q : ℕ). All (λ n. n < length ps) (get_or new.by_formal.items q d).items) (sym e)
        (subst (λ (ns : List ℕ). All (λ n. n < length ps) ns) (sym (added d)) (All-push (λ n. n < length ps) (get_or old.by_formal.items place d).items count (h.lists place d known) inside))
    below p d l (inr f) = subst (λ (v : Vec ℕ). All (λ n. n < length ps) v.items) (sym (others p d f)) (h.lists p d l)

-- what stands in each use is gathered
pub always_gathered : (numbers : PieceNumbers) (actuals : List (List ℕ)) (ns : List ℕ) → ns ≡ numbers.always.items → Gathers numbers actuals 0 ns
always_gathered numbers actuals ns e = record {
  always = λ n c. subst (λ (xs : List ℕ). Contains xs n) (sym e) c;
  given = λ place n d l. absurd (omega arith);
  below = λ bound a b. subst (λ (xs : List ℕ). All (λ n. n < bound) xs) (sym e) a;
}

-- an actual gives something
pub given_gathered : (numbers : PieceNumbers) (actuals : List (List ℕ)) (place : ℕ) (old new : List ℕ) (list : Vec ℕ) → Gathers numbers actuals place old → place < length numbers.by_formal.items →
    list ≡ get_or numbers.by_formal.items place list → new ≡ old ++ list.items → Gathers numbers actuals (place + 1) new
given_gathered numbers actuals place old new list h known e added = record {
  always = λ n c. in_old n (h.always n c);
  given = λ p n d l k some c. at p n d k some c (last_or_before p place l);
  below = λ bound a b. subst (λ (xs : List ℕ). All (λ n. n < bound) xs) (sym added)
      (All-append (λ n. n < bound) old list.items (h.below bound a b) (subst (λ (v : Vec ℕ). All (λ n. n < bound) v.items) (sym e) (b place list known)));
}
  where
    in_old : (n : ℕ) → Contains old n → Contains new n
    in_old n c = subst (λ (xs : List ℕ). Contains xs n) (sym added) (Contains-append_left old list.items n c)

    at : (p n : ℕ) (d : Vec ℕ) → p < length numbers.by_formal.items → 0 < length (actual_at actuals p) → Contains (get_or numbers.by_formal.items p d).items n → (p < place) ⊎ (p ≡ place) → Contains new n
    at p n d k some c (inl l) = in_old n (h.given p n d l k some c)
    at p n d k some c (inr q) =
        subst (λ (xs : List ℕ). Contains xs n) (sym added)
        (Contains-append_right old list.items n
        (subst (λ (v : Vec ℕ). Contains v.items n) (get_or_default numbers.by_formal.items place d list known ∙ sym e) (subst (λ (x : ℕ). Contains (get_or numbers.by_formal.items x d).items n) q c)))

-- an actual gives nothing, or is for no formal
pub none_gathered : (numbers : PieceNumbers) (actuals : List (List ℕ)) (place : ℕ) (ns : List ℕ) → Gathers numbers actuals place ns → (place < length numbers.by_formal.items → length (actual_at actuals place) ≡ 0) → Gathers numbers actuals (place + 1) ns
none_gathered numbers actuals place ns h none = record {
  always = h.always;
  given = λ p n d l k some c. at p n d k some c (last_or_before p place l);
  below = h.below;
}
  where
    at : (p n : ℕ) (d : Vec ℕ) → p < length numbers.by_formal.items → 0 < length (actual_at actuals p) → Contains (get_or numbers.by_formal.items p d).items n → (p < place) ⊎ (p ≡ place) → Contains ns n
    at p n d k some c (inl l) = h.given p n d l k some c
    at p n d k some c (inr q) =
        let e : length (actual_at actuals place) ≡ 0 = none (let l : p < length numbers.by_formal.items = k in omega arith) in
        let s : 0 < length (actual_at actuals place) = subst (λ (x : ℕ). 0 < length (actual_at actuals x)) q some in absurd (omega arith)

-- the same numbers in another order
pub same_gathered : (numbers : PieceNumbers) (actuals : List (List ℕ)) (count : ℕ) (old new : List ℕ) → Gathers numbers actuals count old → ((n : ℕ) → Contains old n → Contains new n) → ((n : ℕ) → Contains new n → Contains old n) →
    Gathers numbers actuals count new
same_gathered numbers actuals count old new h to from = record {
  always = λ n c. to n (h.always n c);
  given = λ p n d l k some c. to n (h.given p n d l k some c);
  below = λ bound a b. λ k d l. All-contains (λ n. n < bound) old (get_or new k d) (h.below bound a b) (from (get_or new k d) (Contains-get_or new k d l));
}

given_or_not : (actuals : List (List ℕ)) (place : ℕ) → (actual_at actuals place ≡ []) ⊎ (0 < length (actual_at actuals place))
given_or_not actuals place = of (actual_at actuals place)
  where
    of : (a : List ℕ) → (a ≡ []) ⊎ (0 < length a)
    of [] = inl refl
    of (v ∷ vs) = inr (omega arith)

beyond : (actuals : List (List ℕ)) (place : ℕ) → 0 < length (actual_at actuals place) → place < length actuals
beyond [] zero h = absurd (omega arith)
beyond [] (suc place) h = absurd (omega arith)
beyond (a ∷ actuals) zero h = omega arith
beyond (a ∷ actuals) (suc place) h = let l : place < length actuals = beyond actuals place h in omega arith

-- what was gathered is all that gives something
pub gathered_covers : (text : List ℕ) (formals : List Formal) (actuals : List (List ℕ)) (ps : List Piece) (numbers : PieceNumbers) (ns : List ℕ) → AreNumbered formals ps (length ps) numbers → Gathers numbers actuals (length actuals) ns →
    IsStrictlyIncreasing ns → Covers (piece_value text (value_at formals actuals)) ps ns
gathered_covers text formals actuals ps numbers ns h g rise = record {
  rise = rise;
  below = g.below (length ps) h.always h.lists;
  others = λ n d l. at n d (h.each n l);
}
  where
    waiting : (n : ℕ) (d : Piece) (r : IsListed formals ps numbers.by_formal.items n) → (actual_at actuals r.place ≡ []) ⊎ (0 < length (actual_at actuals r.place)) →
        (piece_value text (value_at formals actuals) (get_or ps n d) ≡ []) ⊎ Contains ns n
    waiting n d r (inl e) = inl (r.waits d text actuals e)
    waiting n d r (inr some) = inr (g.given r.place n numbers.always (beyond actuals r.place some) r.known some (r.listed numbers.always))

    at : (n : ℕ) (d : Piece) → Contains numbers.always.items n ⊎ IsListed formals ps numbers.by_formal.items n → (piece_value text (value_at formals actuals) (get_or ps n d) ≡ []) ⊎ Contains ns n
    at n d (inl c) = inr (g.always n c)
    at n d (inr r) = waiting n d r (given_or_not actuals r.place)
