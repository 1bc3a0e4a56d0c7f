-- The bodies of visits are asked for one after the other.
use Rattle.std.proofs.Common.{◌≡◌, ℕ, zero, suc, ◌+◌, ◌<◌, ◌≤◌, ◌&&◌, Bool, true, false, cond, Option, Some, None, List, [], ◌∷◌, ◌++◌, length, get_or, map, take, drop, refl, ap, sym, ◌∙◌, subst, arith}
use Rattle.std.specs.List.{Contains, list_all}
use Rattle.std.proofs.Math.Seq.{take-suc}
use Rattle.std.proofs.lemmas.List.{append_assoc, map-append, take-append-drop, take_all}
use Rattle.std.proofs.lemmas.List.Elements.{Contains-append_right}
use Rattle.std.proofs.lemmas.List.Folds.{list_all-append}
use Rattle.sve_told.specs.Told.{asked_on}
use Rattle.sve_facts.specs.Bodies.{Design, Question, OfBody}
use Rattle.sve_design.specs.declared.visits.Visit.{Visit}
use Rattle.sve_design.proofs.Accounts.{next_at}
use Rattle.sve_design.proofs.Asked.{first_in}
use Rattle.sve_hier.specs.declared.bodies.Instance.{Instance}
use Rattle.sve_hier.specs.Instances.{InstanceValue, asked_within, fits, instance_of, instance_value, instances_within}

both_true : (a b : Bool) → (a && b) ≡ true → (a ≡ true) × (b ≡ true)
both_true true b e = (refl, e)
both_true false b e = cc

-- questions asked behind others
asked_behind : (some more : List Question) (asked : Option (List Question)) → asked_on more (asked_on some asked) ≡ asked_on (some ++ more) asked
asked_behind some more None = refl
asked_behind some more (Some before) = ap Some (append_assoc before some more)

-- a list up to a place and the next thing, and what is behind it
one_more : {A : Type 0} (xs : List A) (i : ℕ) (x : A) → i < length xs → x ≡ get_or xs i x → take (i + 1) xs ≡ take i xs ++ x ∷ []
one_more xs i x lt e =
    let k : i + 1 ≡ suc i = omega arith in
    ap (λ (n : ℕ). take n xs) k ∙ take-suc xs i x lt ∙ ap (λ y. take i xs ++ y ∷ []) (sym e)

parted : {A : Type 0} (xs : List A) (i : ℕ) (x : A) → i < length xs → x ≡ get_or xs i x → xs ≡ take i xs ++ x ∷ drop (i + 1) xs
parted xs i x lt e = sym (take-append-drop i xs) ∙ ap (λ ys. take i xs ++ ys) (next_at xs i x lt e)

module _ (design : Design) (fuel : ℕ) where
  abbrev fit : List Visit → Bool
  fit vs = list_all (fits design fuel) vs

  -- where some bodies fit, those behind them are asked for behind them
  behind : (vs ws : List Visit) → fit vs ≡ true → asked_within design fuel (vs ++ ws) ≡ asked_within design fuel vs ++ asked_within design fuel ws
  behind [] ws e = refl
  behind (v ∷ vs) ws e =
      let both = both_true (fits design fuel v) (fit vs) e in
      ap (λ (c : Bool). OfBody v.spec fuel ∷ cond c (asked_within design fuel (vs ++ ws)) []) both.0
      ∙ ap (λ (qs : List Question). OfBody v.spec fuel ∷ qs) (behind vs ws both.1)
      ∙ ap (λ (c : Bool). (OfBody v.spec fuel ∷ cond c (asked_within design fuel vs) []) ++ asked_within design fuel ws) (sym both.0)

  -- a list that ends with a visit asks for its body last, whether it fits or not
  only_one : (v : Visit) (b : Bool) → (OfBody v.spec fuel ∷ cond b [] []) ≡ OfBody v.spec fuel ∷ []
  only_one v true = refl
  only_one v false = refl

  -- one visit more whose body fits
  module _ (vs : List Visit) (i : ℕ) (v : Visit) (lt : i < length vs) (e : v ≡ get_or vs i v) where
    pub fit_more : fits design fuel v ≡ true → fit (take i vs) ≡ true → fit (take (i + 1) vs) ≡ true
    fit_more now before =
        ap fit (one_more vs i v lt e) ∙ list_all-append (fits design fuel) (take i vs) (v ∷ [])
        ∙ ap (λ (b : Bool). b && (fits design fuel v && true)) before ∙ ap (λ (b : Bool). b && true) now

    pub made_more : (out new : List Instance) (x : Instance) → new ≡ out ++ x ∷ [] → instance_value x ≡ instance_of design v → map instance_value out ≡ map (instance_of design) (take i vs) → map instance_value new ≡ map (instance_of design) (take (i + 1) vs)
    made_more out new x added same before =
        ap (λ (is : List Instance). map instance_value is) added ∙ map-append instance_value out (x ∷ [])
        ∙ ap (λ (is : List InstanceValue). is ++ instance_value x ∷ []) before ∙ ap (λ (y : InstanceValue). map (instance_of design) (take i vs) ++ y ∷ []) same
        ∙ sym (map-append (instance_of design) (take i vs) (v ∷ [])) ∙ ap (λ (ws : List Visit). map (instance_of design) ws) (sym (one_more vs i v lt e))

    asked_next : fit (take i vs) ≡ true → asked_within design fuel (take (i + 1) vs) ≡ asked_within design fuel (take i vs) ++ OfBody v.spec fuel ∷ []
    asked_next before =
        ap (asked_within design fuel) (one_more vs i v lt e) ∙ behind (take i vs) (v ∷ []) before
        ∙ ap (λ (qs : List Question). asked_within design fuel (take i vs) ++ qs) (only_one v (fits design fuel v))

    pub asked_more : (old now new : Option (List Question)) → fit (take i vs) ≡ true → now ≡ asked_on (asked_within design fuel (take i vs)) old → new ≡ asked_on (OfBody v.spec fuel ∷ []) now → new ≡ asked_on (asked_within design fuel (take (i + 1) vs)) old
    asked_more old now new before so next =
        next ∙ ap (λ (o : Option (List Question)). asked_on (OfBody v.spec fuel ∷ []) o) so ∙ asked_behind (asked_within design fuel (take i vs)) (OfBody v.spec fuel ∷ []) old
        ∙ ap (λ (qs : List Question). asked_on qs old) (sym (asked_next before))

    -- the whole asks for what some visits ask for, and for the next body
    whole : fit (take i vs) ≡ true → asked_within design fuel vs ≡ asked_within design fuel (take i vs) ++ OfBody v.spec fuel ∷ cond (fits design fuel v) (asked_within design fuel (drop (i + 1) vs)) []
    whole before = ap (asked_within design fuel) (parted vs i v lt e) ∙ behind (take i vs) (v ∷ drop (i + 1) vs) before

    pub asks : fit (take i vs) ≡ true → Contains (asked_within design fuel vs) (OfBody v.spec fuel)
    asks before =
        subst (λ (qs : List Question). Contains qs (OfBody v.spec fuel)) (sym (whole before))
        (Contains-append_right (asked_within design fuel (take i vs)) (OfBody v.spec fuel ∷ cond (fits design fuel v) (asked_within design fuel (drop (i + 1) vs)) []) (OfBody v.spec fuel)
        (first_in (OfBody v.spec fuel) (cond (fits design fuel v) (asked_within design fuel (drop (i + 1) vs)) [])))

    -- the next body costs more
    pub none_made : fits design fuel v ≡ false → fit (take i vs) ≡ true → None ≡ instances_within design fuel vs
    none_made over before =
        let all : fit vs ≡ false =
        ap fit (parted vs i v lt e) ∙ list_all-append (fits design fuel) (take i vs) (v ∷ drop (i + 1) vs)
        ∙ ap (λ (b : Bool). b && (fits design fuel v && fit (drop (i + 1) vs))) before ∙ ap (λ (b : Bool). b && fit (drop (i + 1) vs)) over in
        sym (ap (λ (b : Bool). cond b (Some (map (instance_of design) vs)) None) all)

    pub asked_last : (old now new : Option (List Question)) → fits design fuel v ≡ false → fit (take i vs) ≡ true → now ≡ asked_on (asked_within design fuel (take i vs)) old → new ≡ asked_on (OfBody v.spec fuel ∷ []) now → new ≡ asked_on (asked_within design fuel vs) old
    asked_last old now new over before so next =
        let all : asked_within design fuel vs ≡ asked_within design fuel (take i vs) ++ OfBody v.spec fuel ∷ [] =
        whole before ∙ ap (λ (b : Bool). asked_within design fuel (take i vs) ++ OfBody v.spec fuel ∷ cond b (asked_within design fuel (drop (i + 1) vs)) []) over in
        next ∙ ap (λ (o : Option (List Question)). asked_on (OfBody v.spec fuel ∷ []) o) so ∙ asked_behind (asked_within design fuel (take i vs)) (OfBody v.spec fuel ∷ []) old
        ∙ ap (λ (qs : List Question). asked_on qs old) (sym all)

  -- all bodies fit
  pub all_made : (vs : List Visit) (i : ℕ) (out : List Instance) → length vs ≤ i → fit (take i vs) ≡ true → map instance_value out ≡ map (instance_of design) (take i vs) → Some (map instance_value out) ≡ instances_within design fuel vs
  all_made vs i out end before made =
      let all = take_all i vs end in
      let fitting : fit vs ≡ true = ap fit (sym all) ∙ before in
      ap Some (made ∙ ap (λ (ws : List Visit). map (instance_of design) ws) all) ∙ sym (ap (λ (b : Bool). cond b (Some (map (instance_of design) vs)) None) fitting)

  pub all_asked : (vs : List Visit) (i : ℕ) (old new : Option (List Question)) → length vs ≤ i → new ≡ asked_on (asked_within design fuel (take i vs)) old → new ≡ asked_on (asked_within design fuel vs) old
  all_asked vs i old new end so = so ∙ ap (λ (ws : List Visit). asked_on (asked_within design fuel ws) old) (take_all i vs end)

-- one question is among others
pub only_this : (all : List Question) (q : Question) → Contains all q → (r : Question) → Contains (q ∷ []) r → Contains all r
only_this all q c r (zero, lt, is) = subst (λ (s : Question). Contains all s) is c
only_this all q c r (suc k, lt, is) = absurd (omega (arith, lt))

-- what is made of one visit says whether its body fits
pub fits_so : (design : Design) (fuel : ℕ) (v : Visit) (x : InstanceValue) (b : Bool) → Some x ≡ cond b (Some (instance_of design v)) None → (b ≡ true) × (x ≡ instance_of design v)
fits_so design fuel v x true e = (refl, cc)
fits_so design fuel v x false e = cc

pub over_so : (design : Design) (fuel : ℕ) (v : Visit) (b : Bool) → None ≡ cond b (Some (instance_of design v)) None → b ≡ false
over_so design fuel v true e = cc
over_so design fuel v false e = refl
