-- What each step of the search leaves.
use Rattle.std.proofs.Common.{arith, ◌≡◌, ◌<◌, ◌≤◌, ◌+◌, ◌-◌, ◌∙◌, sym, ℕ, zero, suc, List, [], ◌∷◌, length, take, slice_get, get_or, count_by, replicate, ◌^◌, Result, Ok, Err, OnOk, IfOk, IfSome, Option, None, Some, refl, ap, subst, cond, ◌⊎◌, inl, inr}
use Rattle.std.proofs.Math.ListN.{set}
use Rattle.std.proofs.Math.Path.{fun_ext}
use Rattle.std.proofs.lemmas.List.{length-replicate, length-set}
use Rattle.std.proofs.lemmas.List.Folds.{sum_by-replicate}
use Rattle.std.proofs.lemmas.List.Sums.{count_by-le-length, sum_by-set}
use Rattle.std.proofs.lemmas.Option.{slice_get_within, slice_get-get_or, get_or_from_slice_get}
use Rattle.sve_package_order.specs.declared.progress.Progress.{Progress}
use Rattle.sve_package_order.specs.declared.progress.Progress.TheVariants.{Waits, Settled}
use Rattle.sve_package_order.specs.Search.{found_there, settled, is_waiting, next_round, Stands, Fits, SolvesBelow, Solves, Tried}
use Rattle.sve_package_order.proofs.Places.{get_set_same, get_set_other, one_or_other}
use Rattle.sve_package_order.proofs.Next.{Grows, next_low, next_stays}

-- a package that waits has no round, and one that has a round stands in the list
waits_unsettled : (progress : List Progress) (p at m : ℕ) → slice_get progress p ≡ Some (Waits at m) → settled progress p ≡ None
waits_unsettled progress p at m h = ap found_there h

-- all rounds are low
pub all_low : (graph : List (List ℕ)) (progress : List Progress) (left : ℕ) → Fits graph progress left → (q r : ℕ) → settled progress q ≡ Some r → r + left < length progress
all_low graph progress left f q r e = by (slice_get progress q) refl
  where
    by : (o : Option Progress) → slice_get progress q ≡ o → r + left < length progress
    by None h = let t : None ≡ Some r = sym (ap found_there h) ∙ e in absurd cc
    by (Some (Waits at m)) h = let t : None ≡ Some r = sym (ap found_there h) ∙ e in absurd cc
    by (Some (Settled s)) h =
        let t : Some s ≡ Some r = sym (ap found_there h) ∙ e in
        let within : q < length progress = slice_get_within progress q (Settled s) h in
        let there : slice_get graph q ≡ Some (get_or graph q []) = slice_get-get_or graph q [] (omega (arith, f.sized)) in
        let stands : Stands progress left (get_or graph q []) (Some (Settled s)) = subst (Stands progress left (get_or graph q [])) h (f.stands q (get_or graph q []) there) in
        let same : s ≡ r = cc in
        omega (arith, stands.0)

pub left_low : (graph : List (List ℕ)) (progress : List Progress) (left : ℕ) → Fits graph progress left → left ≤ length progress
left_low graph progress left f = omega (arith, f.counted, count_by-le-length is_waiting progress)

-- the number of packages that wait, where one of them changes
one_waits : (progress : List Progress) (p at m : ℕ) (y : Progress) → slice_get progress p ≡ Some (Waits at m)
    → count_by is_waiting (set progress p y) + 1 ≡ count_by is_waiting progress + cond (is_waiting y) 1 0
one_waits progress p at m y h =
    let within : p < length progress = slice_get_within progress p (Waits at m) h in
    let there : get_or progress p (Waits at m) ≡ Waits at m = get_or_from_slice_get progress p (Waits at m) (Waits at m) h in
    let weighed = sum_by-set (λ (x : Progress). cond (is_waiting x) 1 0) progress p y (Waits at m) within in
    subst (λ (x : Progress). count_by is_waiting (set progress p y) + cond (is_waiting x) 1 0 ≡ count_by is_waiting progress + cond (is_waiting y) 1 0) there weighed

-- where a package waits, some are left
pub some_left : (graph : List (List ℕ)) (progress : List Progress) (left p at m : ℕ) → Fits graph progress left → slice_get progress p ≡ Some (Waits at m) → 0 < left
some_left graph progress left p at m f h = omega (arith, f.counted, one_waits progress p at m (Settled 0) h)

-- what stays known once a package is settled
settled_grows : (progress : List Progress) (p at m r : ℕ) → slice_get progress p ≡ Some (Waits at m) → Grows (settled progress) (settled (set progress p (Settled r)))
settled_grows progress p at m r h q n e = by (one_or_other q p)
  where
    by : (q ≡ p) ⊎ (q ≡ p → ⊥) → settled (set progress p (Settled r)) q ≡ Some n
    by (inl same) = let t : None ≡ Some n = sym (waits_unsettled progress p at m h) ∙ ap (settled progress) (sym same) ∙ e in cc
    by (inr other) = ap found_there (get_set_other progress p q (Settled r) other) ∙ e

pub settles : (graph : List (List ℕ)) (progress : List Progress) (left next p at m r : ℕ) (qs : List ℕ) → Fits graph progress left
    → slice_get graph p ≡ Some qs → slice_get progress p ≡ Some (Waits at m) → next_round (settled progress) qs ≡ Some r → next + 1 ≡ left
    → Fits graph (set progress p (Settled r)) next
settles graph progress left next p at m r qs f there waits goes less = record {
  sized = length-set progress p (Settled r) ∙ f.sized;
  counted = omega (arith, f.counted, one_waits progress p at m (Settled r) waits);
  stands = stands;
}
  where
    long : length (set progress p (Settled r)) ≡ length progress
    long = length-set progress p (Settled r)

    low : r + left ≤ length progress
    low =
        let most = left_low graph progress left f in
        let below = next_low (settled progress) (length progress - left) (λ q n e. let l = all_low graph progress left f q n e in omega arith) qs r goes in
        omega arith

    grows : Grows (settled progress) (settled (set progress p (Settled r)))
    grows = settled_grows progress p at m r waits

    stay : (rs : List ℕ) (o : Option Progress) → Stands progress left rs o → Stands (set progress p (Settled r)) next rs o
    stay rs None h = tt
    stay rs (Some (Waits a n)) h = (h.0, next_stays (settled progress) (settled (set progress p (Settled r))) grows (take a rs) n h.1)
    stay rs (Some (Settled n)) h = (omega (arith, long, h.0), next_stays (settled progress) (settled (set progress p (Settled r))) grows rs n h.1)

    at_place : (q : ℕ) (rs : List ℕ) → slice_get graph q ≡ Some rs → (q ≡ p) ⊎ (q ≡ p → ⊥) → Stands (set progress p (Settled r)) next rs (slice_get (set progress p (Settled r)) q)
    at_place q rs h (inl same) =
        let one : Some qs ≡ Some rs = sym there ∙ ap (slice_get graph) (sym same) ∙ h in
        let row : qs ≡ rs = cc in
        let now : slice_get (set progress p (Settled r)) q ≡ Some (Settled r) = ap (slice_get (set progress p (Settled r))) same ∙ get_set_same progress p (Settled r) (slice_get_within progress p (Waits at m) waits) in
        let next_is : next_round (settled (set progress p (Settled r))) rs ≡ Some r = ap (next_round (settled (set progress p (Settled r)))) (sym row) ∙ next_stays (settled progress) (settled (set progress p (Settled r))) grows qs r goes in
        subst (Stands (set progress p (Settled r)) next rs) (sym now) (omega (arith, long, low), next_is)
    at_place q rs h (inr other) =
        subst (Stands (set progress p (Settled r)) next rs) (sym (get_set_other progress p q (Settled r) other)) (stay rs (slice_get progress q) (f.stands q rs h))

    stands : (q : ℕ) (rs : List ℕ) → slice_get graph q ≡ Some rs → Stands (set progress p (Settled r)) next rs (slice_get (set progress p (Settled r)) q)
    stands q rs h = at_place q rs h (one_or_other q p)

-- a package that waits for another than before: nothing else is known
pub same_known : (progress : List Progress) (p at m a n : ℕ) → slice_get progress p ≡ Some (Waits at m) → settled (set progress p (Waits a n)) ≡ settled progress
same_known progress p at m a n h = fun_ext (λ q. by q (one_or_other q p))
  where
    by : (q : ℕ) → (q ≡ p) ⊎ (q ≡ p → ⊥) → settled (set progress p (Waits a n)) q ≡ settled progress q
    by q (inl same) =
        ap found_there (ap (slice_get (set progress p (Waits a n))) same ∙ get_set_same progress p (Waits a n) (slice_get_within progress p (Waits at m) h))
        ∙ sym (waits_unsettled progress p at m h) ∙ ap (settled progress) (sym same)
    by q (inr other) = ap found_there (get_set_other progress p q (Waits a n) other)

pub waits : (graph : List (List ℕ)) (progress : List Progress) (left p at m a n : ℕ) (qs : List ℕ) → Fits graph progress left
    → slice_get graph p ≡ Some qs → slice_get progress p ≡ Some (Waits at m) → a ≤ length qs → next_round (settled progress) (take a qs) ≡ Some n
    → Fits graph (set progress p (Waits a n)) left
waits graph progress left p at m a n qs f there before within goes = record {
  sized = long ∙ f.sized;
  counted = omega (arith, f.counted, one_waits progress p at m (Waits a n) before);
  stands = λ q rs h. at_place q rs h (one_or_other q p);
}
  where
    long : length (set progress p (Waits a n)) ≡ length progress
    long = length-set progress p (Waits a n)

    known : settled (set progress p (Waits a n)) ≡ settled progress
    known = same_known progress p at m a n before

    stay : (rs : List ℕ) (o : Option Progress) → Stands progress left rs o → Stands (set progress p (Waits a n)) left rs o
    stay rs None h = tt
    stay rs (Some (Waits b k)) h = (h.0, ap (λ (g : ℕ → Option ℕ). next_round g (take b rs)) known ∙ h.1)
    stay rs (Some (Settled k)) h = (omega (arith, long, h.0), ap (λ (g : ℕ → Option ℕ). next_round g rs) known ∙ h.1)

    at_place : (q : ℕ) (rs : List ℕ) → slice_get graph q ≡ Some rs → (q ≡ p) ⊎ (q ≡ p → ⊥) → Stands (set progress p (Waits a n)) left rs (slice_get (set progress p (Waits a n)) q)
    at_place q rs h (inl same) =
        let one : Some qs ≡ Some rs = sym there ∙ ap (slice_get graph) (sym same) ∙ h in
        let row : qs ≡ rs = cc in
        let now : slice_get (set progress p (Waits a n)) q ≡ Some (Waits a n) = ap (slice_get (set progress p (Waits a n))) same ∙ get_set_same progress p (Waits a n) (slice_get_within progress p (Waits at m) before) in
        let fits : a ≤ length rs = subst (λ (r : List ℕ). a ≤ length r) row within in
        let next_is : next_round (settled (set progress p (Waits a n))) (take a rs) ≡ Some n =
        ap (λ (g : ℕ → Option ℕ). next_round g (take a rs)) known ∙ ap (λ (r : List ℕ). next_round (settled progress) (take a r)) (sym row) ∙ goes in
        subst (Stands (set progress p (Waits a n)) left rs) (sym now) (fits, next_is)
    at_place q rs h (inr other) =
        subst (Stands (set progress p (Waits a n)) left rs) (sym (get_set_other progress p q (Waits a n) other)) (stay rs (slice_get progress q) (f.stands q rs h))

-- a package that was tried in vain has no round yet
pub tried_waits : (graph : List (List ℕ)) (progress : List Progress) (p at m a n : ℕ) (qs : List ℕ) → slice_get graph p ≡ Some qs
    → slice_get progress p ≡ Some (Waits at m) → next_round (settled progress) qs ≡ None → Tried graph p progress (set progress p (Waits a n))
tried_waits graph progress p at m a n qs there before none =
    let known = same_known progress p at m a n before in (
      known,
      λ rs h.
          let one : Some qs ≡ Some rs = sym there ∙ h in
          let row : qs ≡ rs = cc in
          ap (λ (g : ℕ → Option ℕ). g p) known ∙ waits_unsettled progress p at m before ∙ sym none
          ∙ ap (next_round (settled progress)) row ∙ ap (λ (g : ℕ → Option ℕ). next_round g rs) (sym known),
    )

-- one that has a round keeps it
pub tried_settled : (graph : List (List ℕ)) (progress : List Progress) (left p r : ℕ) → Fits graph progress left → slice_get progress p ≡ Some (Settled r) → Tried graph p progress progress
tried_settled graph progress left p r f h = (
  refl,
  λ rs there.
      let stands : Stands progress left rs (Some (Settled r)) = subst (Stands progress left rs) h (f.stands p rs there) in
      ap found_there h ∙ sym stands.1,
)

-- where nothing stands, nothing was tried
pub tried_nothing : (graph : List (List ℕ)) (progress : List Progress) (p : ℕ) → slice_get graph p ≡ None → Tried graph p progress progress
tried_nothing graph progress p h = (refl, λ rs there. let t : None ≡ Some rs = sym h ∙ there in cc)

pub nothing_there : (graph : List (List ℕ)) (progress : List Progress) (left p : ℕ) → Fits graph progress left → slice_get progress p ≡ None → Tried graph p progress progress
nothing_there graph progress left p f h = (
  refl,
  λ rs there.
      let within : p < length graph = slice_get_within graph p rs there in
      let one : slice_get progress p ≡ Some (get_or progress p (Waits 0 0)) = slice_get-get_or progress p (Waits 0 0) (omega (arith, f.sized)) in
      let t : None ≡ Some (get_or progress p (Waits 0 0)) = sym h ∙ one in
      cc,
)

-- one package more was tried
pub solves_more : (graph : List (List ℕ)) (old new : List Progress) (p : ℕ) → SolvesBelow graph old p → Tried graph p old new → SolvesBelow graph new (p + 1)
solves_more graph old new p below tried q qs h there = by (one_or_other q p)
  where
    by : (q ≡ p) ⊎ (q ≡ p → ⊥) → settled new q ≡ next_round (settled new) qs
    by (inl same) = ap (settled new) same ∙ tried.1 qs (ap (slice_get graph) (sym same) ∙ there)
    by (inr other) =
        let less : q < p = omega (arith, other) in
        ap (λ (g : ℕ → Option ℕ). g q) tried.0 ∙ below q qs less there ∙ ap (λ (g : ℕ → Option ℕ). next_round g qs) (sym tried.0)

-- all were
pub solves_all : (graph : List (List ℕ)) (progress : List Progress) (k : ℕ) → length graph ≤ k → SolvesBelow graph progress k → Solves graph progress
solves_all graph progress k most below q qs there =
    let within : q < length graph = slice_get_within graph q qs there in
    below q qs (omega arith) there

-- the same, as the program meets it
pub low_here : (graph : List (List ℕ)) (progress : List Progress) (left : ℕ) → Fits graph progress left → length graph < 2 ^ 32 → (slice : List Progress) → slice ≡ progress
    → (q : ℕ) → IfSome (settled slice q) (λ n. n < 4294967295)
low_here graph progress left f few slice same q = by (settled slice q) refl
  where
    by : (o : Option ℕ) → settled slice q ≡ o → IfSome o (λ n. n < 4294967295)
    by None e = tt
    by (Some r) e =
        let h : settled progress q ≡ Some r = ap (λ (s : List Progress). settled s q) (sym same) ∙ e in
        let low : r + left < length progress = all_low graph progress left f q r h in
        omega (arith, f.sized)

pub settles_to : (graph : List (List ℕ)) (progress new : List Progress) (left next p at m r : ℕ) (qs : List ℕ) → Fits graph progress left
    → slice_get graph p ≡ Some qs → slice_get progress p ≡ Some (Waits at m) → next_round (settled progress) qs ≡ Some r
    → new ≡ set progress p (Settled r) → next + 1 ≡ left → Fits graph new next
settles_to graph progress new left next p at m r qs f there before goes is less =
    subst (λ (ps : List Progress). Fits graph ps next) (sym is) (settles graph progress left next p at m r qs f there before goes less)

pub waits_to : (graph : List (List ℕ)) (progress new : List Progress) (left next p at m a n : ℕ) (qs : List ℕ) → Fits graph progress left
    → slice_get graph p ≡ Some qs → slice_get progress p ≡ Some (Waits at m) → a < length qs → next_round (settled progress) (take a qs) ≡ Some n
    → new ≡ set progress p (Waits a n) → next ≡ left → Fits graph new next
waits_to graph progress new left next p at m a n qs f there before within goes is same =
    subst (λ (ps : List Progress). Fits graph ps next) (sym is)
    (subst (λ (k : ℕ). Fits graph (set progress p (Waits a n)) k) (sym same) (waits graph progress left p at m a n qs f there before (omega arith) goes))

-- at first each package waits for its first import
front : (round : ℕ → Option ℕ) (qs : List ℕ) → next_round round (take 0 qs) ≡ Some 0
unfolding next_round
front round [] = refl
front round (q ∷ qs) = refl

pub begins : (graph : List (List ℕ)) (progress : List Progress) (left : ℕ) → progress ≡ replicate (length graph) (Waits 0 0) → left ≡ length graph → Fits graph progress left
begins graph progress left is all = subst (λ (ps : List Progress). Fits graph ps left) (sym is) record {
  sized = length-replicate (length graph) (Waits 0 0);
  counted = omega (arith, all, sum_by-replicate (λ (x : Progress). cond (is_waiting x) 1 0) (length graph) (Waits 0 0));
  stands = λ p qs h. there (length graph) p qs;
}
  where
    there : (n p : ℕ) (qs : List ℕ) → Stands (replicate (length graph) (Waits 0 0)) left qs (slice_get (replicate n (Waits 0 0)) p)
    there zero p qs = tt
    there (suc n) zero qs = (omega arith, front (settled (replicate (length graph) (Waits 0 0))) qs)
    there (suc n) (suc p) qs = there n p qs

-- what is so where a call succeeds
pub both_ok : {A E P Q S : Type 0} (r : Result A E) → (P → Q → S) → OnOk r P → OnOk r Q → OnOk r S
both_ok (Ok x) f p q = f p q
both_ok (Err e) f p q = tt

pub if_ok : {A E : Type 0} {P Q : A → Type 0} (r : Result A E) → ((v : A) → P v → Q v) → IfOk r P → IfOk r Q
if_ok (Ok x) f p = f x p
if_ok (Err e) f p = tt
