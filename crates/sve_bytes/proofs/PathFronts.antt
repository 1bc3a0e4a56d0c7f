-- A path is read a step at a time: what its first bytes say of the whole.
use Rattle.std.proofs.Common.{◌≡◌, ◌∙◌, ◌⊎◌, inl, inr, ℕ, zero, suc, ◌<◌, Bool, true, false, cond, List, [], ◌∷◌, ◌++◌, length, take, refl, sym, ap, subst, append_assoc, arith, length-append}
use Rattle.std.proofs.lemmas.List.{append-nil, take_at}
use Rattle.std.specs.Char.{is_ascii_graphic}
use Rattle.std.specs.List.{list_all, flat_map}
use Rattle.sve_bytes.specs.declared.path.Step.{Step}
use Rattle.sve_bytes.specs.PathReading.{IsStep, SpellsName, SpellsStep, SpellsFurther, Spells, BeginsPath, StopsAt, AreReadable}
use Rattle.sve_bytes.specs.PathStages.{BeginsNoStep}
use Rattle.sve_bytes.specs.PathText.{is_simple_identifier, name_text, step_text, path_text}
use Rattle.sve_bytes.proofs.StepTexts.{Ends, steps_agree}
use Rattle.sve_bytes.proofs.StageNames.{after_one}

-- the steps of a path that has one or more
abbrev pub SpellsSome : List ℕ → List Step → Type 0
SpellsSome text [] = ⊥
SpellsSome text (s ∷ ss) = Spells text (s ∷ ss)

-- whole steps, each with the dot behind it
abbrev pub SpellsDotted : List ℕ → List Step → Type 0
SpellsDotted text [] = text ≡ []
SpellsDotted text (s ∷ ss) = (first : List ℕ) × (rest : List ℕ) × SpellsStep first s × (text ≡ first ++ 46 ∷ rest) × SpellsDotted rest ss

-- some bytes after it make it a text of a step
abbrev pub BeginsStep : List ℕ → Type 0
BeginsStep text = (rest : List ℕ) × (s : Step) × SpellsStep (text ++ rest) s

some_from : (text : List ℕ) (p : List Step) → 0 < length text → Spells text p → SpellsSome text p
some_from text [] some h = omega (arith, ap length h)
some_from text (s ∷ ss) some h = h

from_some : (text : List ℕ) (p : List Step) → SpellsSome text p → Spells text p
from_some text [] h = absurd h
from_some text (s ∷ ss) h = h

further_from : (text : List ℕ) (p : List Step) → SpellsSome text p → SpellsFurther (46 ∷ text) p
further_from text [] h = absurd h
further_from text (s ∷ ss) h = (h.0, h.1, h.2, ap (λ (x : List ℕ). 46 ∷ x) h.3, h.4)

some_further : (text : List ℕ) (p : List Step) → SpellsFurther (46 ∷ text) p → SpellsSome text p
some_further text [] h = cc
some_further text (s ∷ ss) h =
    let whole : 46 ∷ text ≡ 46 ∷ (h.0 ++ h.1) = h.3 in
    let tails : text ≡ h.0 ++ h.1 = cc in
    (h.0, h.1, h.2, tails, h.4)

further_ends : (text : List ℕ) (p : List Step) → SpellsFurther text p → Ends text
further_ends [] p h = tt
further_ends (b ∷ text) [] h = absurd (let f : ⊥ = cc in f)
further_ends (b ∷ text) (s ∷ ss) h =
    let whole : b ∷ text ≡ 46 ∷ (h.0 ++ h.1) = h.3 in
    let same : b ≡ 46 = cc in
    same

further_none : (p : List Step) → SpellsFurther [] p → p ≡ []
further_none [] h = refl
further_none (s ∷ ss) h = absurd (let f : [] ≡ 46 ∷ (h.0 ++ h.1) = h.3 in let g : ⊥ = cc in g)

-- ---- a front of whole steps

pub dotted_more : (front first : List ℕ) (ss : List Step) (s : Step) → SpellsDotted front ss → SpellsStep first s → SpellsDotted (front ++ (first ++ 46 ∷ [])) (ss ++ s ∷ [])
dotted_more front first [] s h step = (first, [], step, ap (λ (x : List ℕ). x ++ (first ++ 46 ∷ [])) h, refl)
dotted_more front first (t ∷ ss) s h step =
    (h.0, h.1 ++ (first ++ 46 ∷ []), h.2, ap (λ (x : List ℕ). x ++ (first ++ 46 ∷ [])) h.3 ∙ append_assoc h.0 (46 ∷ h.1) (first ++ 46 ∷ []), dotted_more h.1 first ss s h.4 step)

dotted_some : (front text : List ℕ) (ss p : List Step) → SpellsDotted front ss → SpellsSome text p → SpellsSome (front ++ text) (ss ++ p)
dotted_some front text [] p h some = subst (λ (x : List ℕ). SpellsSome (x ++ text) p) (sym h) some
dotted_some front text (t ∷ ss) p h some =
    (h.0, 46 ∷ (h.1 ++ text), h.2, ap (λ (x : List ℕ). x ++ text) h.3 ∙ append_assoc h.0 (46 ∷ h.1) text, further_from (h.1 ++ text) (ss ++ p) (dotted_some h.1 text ss p h.4 some))

some_dotted : (front text : List ℕ) (ss p : List Step) → SpellsDotted front ss → SpellsSome (front ++ text) p → (q : List Step) × (p ≡ ss ++ q) × SpellsSome text q
some_dotted front text [] p h some = (p, refl, subst (λ (x : List ℕ). SpellsSome (x ++ text) p) h some)
some_dotted front text (t ∷ ss) [] h some = absurd some
some_dotted front text (t ∷ ss) (u ∷ us) h some =
    let texts : some.0 ++ some.1 ≡ h.0 ++ 46 ∷ (h.1 ++ text) = sym some.3 ∙ ap (λ (x : List ℕ). x ++ text) h.3 ∙ append_assoc h.0 (46 ∷ h.1) text in
    let same = steps_agree some.0 h.0 some.1 (46 ∷ (h.1 ++ text)) u t some.2 h.2 (further_ends some.1 us some.4) refl texts in
    let further : SpellsFurther (46 ∷ (h.1 ++ text)) us = subst (λ (x : List ℕ). SpellsFurther x us) same.2 some.4 in
    let more = some_dotted h.1 text ss us h.4 (some_further (h.1 ++ text) us further) in
    let step : u ≡ t = same.1 in
    let steps : us ≡ ss ++ more.0 = more.1 in
    (more.0, λ i. step i ∷ steps i, more.2)

-- ---- where a text stops

-- of two fronts of one text, one begins the other
overlap : (x y q r : List ℕ) → x ++ q ≡ y ++ r → ((m : List ℕ) × (y ≡ x ++ m) × (q ≡ m ++ r)) ⊎ ((m : List ℕ) × (x ≡ y ++ m) × (r ≡ m ++ q))
overlap [] y q r e = inl (y, refl, e)
overlap (b ∷ x) [] q r e = inr (b ∷ x, refl, sym e)
overlap (b ∷ x) (c ∷ y) q r e =
    let head : b ≡ c = cc in
    let tail : x ++ q ≡ y ++ r = cc in
    elim (overlap x y q r tail) [
      | inl h ↦ let back : c ≡ b = sym head in let more : y ≡ x ++ h.0 = h.1 in inl (h.0, λ i. back i ∷ more i, h.2)
      | inr h ↦ let more : x ≡ y ++ h.0 = h.1 in inr (h.0, λ i. head i ∷ more i, h.2)
    ]

-- no text of a step is another one's and a dot behind it
no_dot : (first rest : List ℕ) (s : Step) → SpellsStep first s → BeginsStep (first ++ 46 ∷ rest) → ⊥
no_dot first rest s h begun =
    let texts : first ++ 46 ∷ (rest ++ begun.0) ≡ ((first ++ 46 ∷ rest) ++ begun.0) ++ [] = sym (append_assoc first (46 ∷ rest) begun.0) ∙ sym (append-nil ((first ++ 46 ∷ rest) ++ begun.0)) in
    let same = steps_agree first ((first ++ 46 ∷ rest) ++ begun.0) (46 ∷ (rest ++ begun.0)) [] s begun.1 h begun.2 refl tt texts in
    let more : 46 ∷ (rest ++ begun.0) ≡ [] = same.2 in
    cc

-- a text in which no step goes on behind the step that is begun is no path
no_path_past : (front x : List ℕ) (b : ℕ) (more : List ℕ) (ss p : List Step) → SpellsDotted front ss → BeginsStep x → BeginsNoStep (x ++ b ∷ []) → (b ≡ 46 → (s : Step) → SpellsStep x s → ⊥) → Spells (front ++ (x ++ b ∷ more)) p → ⊥
no_path_past front x b more ss p dotted begun dead cut h = at_step cut_off.0 cut_off.2
  where
    longer : 0 < length (front ++ (x ++ b ∷ more))
    longer = omega (arith, length-append front (x ++ b ∷ more), length-append x (b ∷ more))

    cut_off : (q : List Step) × (p ≡ ss ++ q) × SpellsSome (x ++ b ∷ more) q
    cut_off = some_dotted front (x ++ b ∷ more) ss p dotted (some_from (front ++ (x ++ b ∷ more)) p longer h)

    whole : (first rest : List ℕ) (s : Step) (q : List Step) → SpellsStep first s → SpellsFurther rest q → first ≡ x → rest ≡ b ∷ more → ⊥
    whole first rest s q step further same is =
        let further_b : SpellsFurther (b ∷ more) q = subst (λ (y : List ℕ). SpellsFurther y q) is further in
        cut (further_ends (b ∷ more) q further_b) s (subst (λ (y : List ℕ). SpellsStep y s) same step)

    past : (first rest : List ℕ) (s : Step) (q : List Step) → SpellsStep first s → SpellsFurther rest q → (m : List ℕ) → first ≡ x ++ m → b ∷ more ≡ m ++ rest → ⊥
    past first rest s q step further [] same is = whole first rest s q step further (same ∙ append-nil x) (sym is)
    past first rest s q step further (c ∷ m) same is =
        let byte : b ≡ c = cc in
        let texts : first ≡ (x ++ b ∷ []) ++ m = same ∙ ap (λ (y : ℕ). x ++ y ∷ m) (sym byte) ∙ sym (after_one x b m) in
        dead m s (subst (λ (y : List ℕ). SpellsStep y s) texts step)

    short : (first rest : List ℕ) (s : Step) (q : List Step) → SpellsStep first s → SpellsFurther rest q → (m : List ℕ) → x ≡ first ++ m → rest ≡ m ++ b ∷ more → ⊥
    short first rest s q step further [] same is = whole first rest s q step further (sym (append-nil first) ∙ sym same) is
    short first rest s q step further (c ∷ m) same is =
        let further_c : SpellsFurther (c ∷ (m ++ b ∷ more)) q = subst (λ (y : List ℕ). SpellsFurther y q) is further in
        let dot : c ≡ 46 = further_ends (c ∷ (m ++ b ∷ more)) q further_c in
        no_dot first m s step (subst (λ (y : List ℕ). BeginsStep y) (same ∙ ap (λ (y : ℕ). first ++ y ∷ m) dot) begun)

    at_step : (q : List Step) → SpellsSome (x ++ b ∷ more) q → ⊥
    at_step [] some = some
    at_step (s ∷ q) some =
        elim (overlap x some.0 (b ∷ more) some.1 some.3) [
          | inl m ↦ past some.0 some.1 s q some.2 some.4 m.0 m.1 m.2
          | inr m ↦ short some.0 some.1 s q some.2 some.4 m.0 m.1 m.2
        ]

-- a longer prefix has the byte behind the shorter one
take_past : (g : List ℕ) (b : ℕ) (r : List ℕ) (m : ℕ) → length g < m → (more : List ℕ) × (take m (g ++ b ∷ r) ≡ g ++ b ∷ more)
take_past [] b r zero h = absurd (omega arith)
take_past [] b r (suc m) h = (take m r, refl)
take_past (c ∷ g) b r zero h = absurd (omega arith)
take_past (c ∷ g) b r (suc m) h =
    let rest = take_past g b r m (omega arith) in
    (rest.0, ap (λ (y : List ℕ). c ∷ y) rest.1)

begins_here : (front x : List ℕ) (ss : List Step) → SpellsDotted front ss → BeginsStep x → BeginsPath (front ++ x)
begins_here front x ss dotted begun =
    let one : Spells (x ++ begun.0) (begun.1 ∷ []) = (x ++ begun.0, [], begun.2, sym (append-nil (x ++ begun.0)), refl) in
    let path : Spells (front ++ (x ++ begun.0)) (ss ++ begun.1 ∷ []) = from_some (front ++ (x ++ begun.0)) (ss ++ begun.1 ∷ []) (dotted_some front (x ++ begun.0) ss (begun.1 ∷ []) dotted one) in
    (begun.0, ss ++ begun.1 ∷ [], subst (λ (y : List ℕ). Spells y (ss ++ begun.1 ∷ [])) (sym (append_assoc front x begun.0)) path)

pub stops_within : (front x : List ℕ) (b : ℕ) (rest : List ℕ) (ss : List Step) → SpellsDotted front ss → BeginsStep x → BeginsNoStep (x ++ b ∷ []) → (b ≡ 46 → (s : Step) → SpellsStep x s → ⊥) → StopsAt (front ++ (x ++ b ∷ rest)) (length (front ++ x))
stops_within front x b rest ss dotted begun dead cut = record {
  no_path = λ p h. no_path_past front x b rest ss p dotted begun dead cut h;
  stop = record {
    within = omega (arith, length-append front x, length-append front (x ++ b ∷ rest), length-append x (b ∷ rest));
    begins =
        let front_is : take (length (front ++ x)) (front ++ (x ++ b ∷ rest)) ≡ front ++ x = ap (take (length (front ++ x))) (sym (append_assoc front x (b ∷ rest))) ∙ take_at (front ++ x) (b ∷ rest) (length (front ++ x)) refl in
        subst (λ (y : List ℕ). BeginsPath y) (sym front_is) (begins_here front x ss dotted begun);
    longest = λ m above within begins.
        let longer = take_past (front ++ x) b rest m above in
        let texts : take m (front ++ (x ++ b ∷ rest)) ++ begins.0 ≡ front ++ (x ++ b ∷ (longer.0 ++ begins.0)) = ap (λ (y : List ℕ). take m y ++ begins.0) (sym (append_assoc front x (b ∷ rest))) ∙ ap (λ (y : List ℕ). y ++ begins.0) longer.1 ∙ append_assoc (front ++ x) (b ∷ longer.0) begins.0 ∙ append_assoc front x (b ∷ (longer.0 ++ begins.0)) in
        no_path_past front x b (longer.0 ++ begins.0) ss begins.1 dotted begun dead cut (subst (λ (y : List ℕ). Spells y begins.1) texts begins.2);
  };
}

pub stops_at_end : (front x : List ℕ) (ss : List Step) → SpellsDotted front ss → BeginsStep x → ((s : Step) → SpellsStep x s → ⊥) → 0 < length (front ++ x) → StopsAt (front ++ x) (length (front ++ x))
stops_at_end front x ss dotted begun none some = record {
  no_path = λ p h. let cut_off = some_dotted front x ss p dotted (some_from (front ++ x) p some h) in at_step cut_off.0 cut_off.2;
  stop = record {
    within = omega arith;
    begins = subst (λ (y : List ℕ). BeginsPath y) (sym (take_all_of (front ++ x))) (begins_here front x ss dotted begun);
    longest = λ m above within begins. omega arith;
  };
}
  where
    take_all_of : (g : List ℕ) → take (length g) g ≡ g
    take_all_of [] = refl
    take_all_of (c ∷ g) = ap (λ (y : List ℕ). c ∷ y) (take_all_of g)

    by : (first rest : List ℕ) (s : Step) (q : List Step) → SpellsStep first s → x ≡ first ++ rest → SpellsFurther rest q → ⊥
    by first [] s q step same further = none s (subst (λ (y : List ℕ). SpellsStep y s) (sym (append-nil first) ∙ sym same) step)
    by first (c ∷ rest) s q step same further =
        let dot : c ≡ 46 = further_ends (c ∷ rest) q further in
        no_dot first rest s step (subst (λ (y : List ℕ). BeginsStep y) (same ∙ ap (λ (y : ℕ). first ++ y ∷ rest) dot) begun)

    at_step : (q : List Step) → SpellsSome x q → ⊥
    at_step [] h = h
    at_step (s ∷ q) h = by h.0 h.1 s q h.2 h.3 h.4

-- ---- a text that is a path

pub path_whole : (front x : List ℕ) (ss : List Step) (s : Step) → SpellsDotted front ss → SpellsStep x s → Spells (front ++ x) (ss ++ s ∷ [])
path_whole front x ss s dotted step =
    from_some (front ++ x) (ss ++ s ∷ []) (dotted_some front x ss (s ∷ []) dotted (x, [], step, sym (append-nil x), refl))

pub path_only : (front x : List ℕ) (ss : List Step) (s : Step) → SpellsDotted front ss → SpellsStep x s → 0 < length (front ++ x) → (p : List Step) → Spells (front ++ x) p → p ≡ ss ++ s ∷ []
path_only front x ss s dotted step some p h = cut_off.1 ∙ ap (λ (q : List Step). ss ++ q) (by cut_off.0 cut_off.2)
  where
    cut_off : (q : List Step) × (p ≡ ss ++ q) × SpellsSome x q
    cut_off = some_dotted front x ss p dotted (some_from (front ++ x) p some h)

    by : (q : List Step) → SpellsSome x q → q ≡ s ∷ []
    by [] q_some = absurd q_some
    by (t ∷ q) q_some =
        let same = steps_agree q_some.0 x q_some.1 [] t s q_some.2 step (further_ends q_some.1 q q_some.4) tt (sym q_some.3 ∙ sym (append-nil x)) in
        let first : t ≡ s = same.1 in
        let none : q ≡ [] = further_none q (subst (λ (y : List ℕ). SpellsFurther y q) same.2 q_some.4) in
        λ i. first i ∷ none i

-- ---- what was printed

name_spells : (name : List ℕ) → list_all is_ascii_graphic name ≡ true → SpellsName (name_text name) name
name_spells name graphic = by (is_simple_identifier name) refl
  where
    by : (t : Bool) → is_simple_identifier name ≡ t → SpellsName (cond t name (92 ∷ name ++ 32 ∷ [])) name
    by true simple = inl (simple, refl)
    by false simple = inr (graphic, refl)

step_spells : (s : Step) → IsStep s → list_all is_ascii_graphic s.name ≡ true → SpellsStep (step_text s) s
step_spells s is graphic = record { is_step = is; named = name_text s.name; spells_name = name_spells s.name graphic; whole = refl }

further_spells : (ss : List Step) → AreReadable ss → SpellsFurther (flat_map (λ t. 46 ∷ step_text t) ss) ss
further_spells [] h = refl
further_spells (s ∷ ss) h =
    (step_text s, flat_map (λ t. 46 ∷ step_text t) ss, step_spells s h.0 h.1, refl, further_spells ss h.2)

pub text_spells : (ss : List Step) → AreReadable ss → Spells (path_text ss) ss
text_spells [] h = refl
text_spells (s ∷ ss) h =
    (step_text s, flat_map (λ t. 46 ∷ step_text t) ss, step_spells s h.0 h.1, refl, further_spells ss h.2)

pub printed_spells : (text : List ℕ) (ss : List Step) → AreReadable ss → text ≡ path_text ss → Spells text ss
printed_spells text ss h e = subst (λ (y : List ℕ). Spells y ss) (sym e) (text_spells ss h)
