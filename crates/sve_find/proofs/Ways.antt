-- The way along a path, one instance after the other.
use Rattle.std.proofs.Common.{◌≡◌, ℕ, zero, suc, ◌+◌, ◌-◌, ◌<◌, ◌≤◌, ◌⊎◌, inl, inr, Bool, true, false, cond, Option, Some, None, Result, Ok, Err, List, [], ◌∷◌, length, drop, refl, ap, sym, ◌∙◌, subst, arith}
use Rattle.std.specs.Prelude.{nat_le, nat_lt, IfErr, OnOk}
use Rattle.std.specs.List as list
use Rattle.std.specs.List.{Contains}
use Rattle.std.proofs.lemmas.Bool.{le-leb, lt-leb, leb-true, leb-false, ltb-true, ltb-false}
use Rattle.sve_bytes.specs.declared.path.Path.{Path}
use Rattle.sve_bytes.specs.declared.path.Step.{Step}
use Rattle.sve_spec.specs.declared.spec.Spec.{Spec}
use Rattle.sve_scope.specs.declared.spot.Spot.{Spot}
use Rattle.sve_facts.specs.declared.facts.Child.{Child}
use Rattle.sve_facts.specs.declared.facts.Facts.{Facts}
use Rattle.sve_told.specs.Told.{TellSame, Tells, asked_on}
use Rattle.sve_facts.specs.Bodies.{Answer, Design, Question, OfBody, OfTops, Costs, CostsMore, answer_of}
use Rattle.sve_find.specs.Ends.{FindValue, Nowhere, Spent, token_place}
use Rattle.sve_design.specs.Walk.{inside, top_path, cost_of_all}
use Rattle.sve_design.specs.Paying.{bodies_asked}
use Rattle.sve_design.specs.Halts.{HaltedAmong}
use Rattle.sve_find.specs.Along.{Reached, first_of, through, leads, names_top, way, along, visits, ends_at, end_of, settle, find, find_asks}
use Rattle.sve_design.proofs.Accounts.{asked_further, asked_none, asks_next, so_done, so_over}
use Rattle.sve_design.proofs.Asked.{first_in, halts_in, later_in}

-- one comparison for another
same_le : (a b x y : ℕ) → (x ≤ y → a ≤ b) → (y < x → b < a) → nat_le a b ≡ nat_le x y
same_le a b x y up down = by (nat_le x y) refl
  where
    by : (v : Bool) → nat_le x y ≡ v → nat_le a b ≡ v
    by true h = le-leb a b (up (leb-true x y h))
    by false h = lt-leb a b (down (leb-false x y h))

-- the instances behind the first on a way
abbrev pub tail_of : Design → ℕ → ℕ → Path → List Step → Facts → List Reached
tail_of design below depth path steps facts =
    through (λ (child : Child). way design below (depth + 1) (inside path child.path) (token_place facts.scopes child.token) child.spec (drop (length child.path.steps) steps)) (list.find (leads steps) facts.children)

whole_way : (design : Design) (levels below depth : ℕ) (path : Path) (at : Option Spot) (spec : Spec) (steps : List Step) (facts : Facts) → levels ≡ suc below → design.facts spec ≡ facts → way design levels depth path at spec steps ≡ first_of path at spec depth steps ∷ tail_of design below depth path steps facts
whole_way design levels below depth path at spec steps facts more same =
    ap (λ (l : ℕ). way design l depth path at spec steps) more ∙ ap (λ (f : Facts). first_of path at spec depth steps ∷ tail_of design below depth path steps f) same

-- on to the child whose path begins the steps
next_way : (design : Design) (below depth : ℕ) (path inner : Path) (name : Option Spot) (steps rest : List Step) (facts : Facts) (child : Child) → Some child ≡ list.find (leads steps) facts.children → inner ≡ inside path child.path → name ≡ token_place facts.scopes child.token → rest ≡ drop (length child.path.steps) steps → tail_of design below depth path steps facts ≡ way design below (depth + 1) inner name child.spec rest
next_way design below depth path inner name steps rest facts child found inner_is name_is rest_is =
    let f = λ (c : Child). way design below (depth + 1) (inside path c.path) (token_place facts.scopes c.token) c.spec (drop (length c.path.steps) steps) in
    ap (λ (o : Option Child). through f o) (sym found) ∙ ap (λ (p : Path). way design below (depth + 1) p (token_place facts.scopes child.token) child.spec (drop (length child.path.steps) steps)) (sym inner_is)
    ∙ ap (λ (a : Option Spot). way design below (depth + 1) inner a child.spec (drop (length child.path.steps) steps)) (sym name_is)
    ∙ ap (λ (r : List Step). way design below (depth + 1) inner name child.spec r) (sym rest_is)

-- nothing is behind the first instance
no_levels : (design : Design) (depth : ℕ) (path : Path) (steps : List Step) (facts : Facts) (o : Option Child) → through (λ (c : Child). way design zero (depth + 1) (inside path c.path) (token_place facts.scopes c.token) c.spec (drop (length c.path.steps) steps)) o ≡ []
no_levels design depth path steps facts None = refl
no_levels design depth path steps facts (Some c) = refl

none_behind : (design : Design) (below depth : ℕ) (path : Path) (steps : List Step) (facts : Facts) → (None ≡ list.find (leads steps) facts.children) ⊎ (below ≡ 0) → tail_of design below depth path steps facts ≡ []
none_behind design below depth path steps facts (inl e) =
    let f = λ (c : Child). way design below (depth + 1) (inside path c.path) (token_place facts.scopes c.token) c.spec (drop (length c.path.steps) steps) in
    ap (λ (o : Option Child). through f o) (sym e)
none_behind design below depth path steps facts (inr e) = ap (λ (n : ℕ). tail_of design n depth path steps facts) e ∙ no_levels design depth path steps facts (list.find (leads steps) facts.children)

-- what a way comes to, and what was asked for on it
pub record LeadsTo (design : Design) (budget : ℕ) (reached : List Reached) (found : FindValue) (questions : List Question) : Type 0 where
  pub settled : settle design budget reached ≡ found
  pub asked : bodies_asked design budget (visits reached) ≡ questions

-- nothing is left
none_for : (design : Design) (r : Reached) (rest : List Reached) → LeadsTo design 0 (r ∷ rest) Spent []
none_for design r rest =
    let all = 1 + design.cost r.visit.spec + cost_of_all design (visits rest) in record {
      settled = ap (λ (b : Bool). cond b (end_of design (r ∷ rest) (0 - all)) Spent) (lt-leb all 0 (omega arith));
      asked = refl;
    }

pub nothing_left : (design : Design) (levels below depth budget : ℕ) (path : Path) (at : Option Spot) (spec : Spec) (steps : List Step) → levels ≡ suc below → budget ≡ 0 → LeadsTo design budget (way design levels depth path at spec steps) Spent []
nothing_left design levels below depth budget path at spec steps more none =
    subst (λ (w : List Reached). LeadsTo design budget w Spent []) (sym (whole_way design levels below depth path at spec steps (design.facts spec) more refl))
    (subst (λ (n : ℕ). LeadsTo design n (first_of path at spec depth steps ∷ tail_of design below depth path steps (design.facts spec)) Spent []) (sym none)
    (none_for design (first_of path at spec depth steps) (tail_of design below depth path steps (design.facts spec))))

-- the first body costs more than is left
first_over : (design : Design) (r : Reached) (rest : List Reached) (n : ℕ) → nat_le (design.cost r.visit.spec) n ≡ false → LeadsTo design (suc n) (r ∷ rest) Spent (OfBody r.visit.spec n ∷ [])
first_over design r rest n over =
    let dear = leb-false (design.cost r.visit.spec) n over in
    let all = cost_of_all design (visits rest) in
    record {
      settled = ap (λ (b : Bool). cond b (end_of design (r ∷ rest) (suc n - (1 + design.cost r.visit.spec + all))) Spent) (lt-leb (1 + design.cost r.visit.spec + all) (suc n) (omega (arith, dear)));
      asked = ap (λ (b : Bool). OfBody r.visit.spec n ∷ cond b (bodies_asked design (n - design.cost r.visit.spec) (visits rest)) []) over;
    }

pub costs_more : (design : Design) (levels below depth budget n : ℕ) (path : Path) (at : Option Spot) (spec : Spec) (steps : List Step) → levels ≡ suc below → budget ≡ suc n → CostsMore ≡ answer_of design (OfBody spec n) → LeadsTo design budget (way design levels depth path at spec steps) Spent (OfBody spec n ∷ [])
costs_more design levels below depth budget n path at spec steps more some told =
    subst (λ (w : List Reached). LeadsTo design budget w Spent (OfBody spec n ∷ [])) (sym (whole_way design levels below depth path at spec steps (design.facts spec) more refl))
    (subst (λ (b : ℕ). LeadsTo design b (first_of path at spec depth steps ∷ tail_of design below depth path steps (design.facts spec)) Spent (OfBody spec n ∷ [])) (sym some)
    (first_over design (first_of path at spec depth steps) (tail_of design below depth path steps (design.facts spec)) n (so_over design spec n told)))

-- the first is paid for, and the way goes on
on_to_next : (design : Design) (r next : Reached) (rest : List Reached) (n : ℕ) → nat_le (design.cost r.visit.spec) n ≡ true → LeadsTo design (suc n) (r ∷ next ∷ rest) (settle design (n - design.cost r.visit.spec) (next ∷ rest)) (OfBody r.visit.spec n ∷ bodies_asked design (n - design.cost r.visit.spec) (visits (next ∷ rest)))
on_to_next design r next rest n fits =
    let cost = design.cost r.visit.spec in
    let within = leb-true cost n fits in
    let all = cost_of_all design (visits (next ∷ rest)) in
    let left : suc n - (1 + cost + all) ≡ n - cost - all = omega (arith, within) in
    record {
      settled = ap (λ (m : ℕ). cond (nat_le (1 + cost + all) (suc n)) (end_of design (next ∷ rest) m) Spent) left
          ∙ ap (λ (b : Bool). cond b (end_of design (next ∷ rest) (n - cost - all)) Spent) (same_le (1 + cost + all) (suc n) all (n - cost) (λ h. omega (arith, within, h)) (λ h. omega (arith, within, h)));
      asked = ap (λ (b : Bool). OfBody r.visit.spec n ∷ cond b (bodies_asked design (n - cost) (visits (next ∷ rest))) []) fits;
    }

on_to : (design : Design) (r : Reached) (below last depth n left : ℕ) (inner : Path) (name : Option Spot) (spec : Spec) (rest : List Step) → below ≡ suc last → left ≡ n - design.cost r.visit.spec → nat_le (design.cost r.visit.spec) n ≡ true → LeadsTo design (suc n) (r ∷ way design below depth inner name spec rest) (settle design left (way design below depth inner name spec rest)) (OfBody r.visit.spec n ∷ bodies_asked design left (visits (way design below depth inner name spec rest)))
on_to design r below last depth n left inner name spec rest deep after fits =
    subst (λ (m : ℕ). LeadsTo design (suc n) (r ∷ way design m depth inner name spec rest) (settle design left (way design m depth inner name spec rest)) (OfBody r.visit.spec n ∷ bodies_asked design left (visits (way design m depth inner name spec rest)))) (sym deep)
    (subst (λ (m : ℕ). LeadsTo design (suc n) (r ∷ way design (suc last) depth inner name spec rest) (settle design m (way design (suc last) depth inner name spec rest)) (OfBody r.visit.spec n ∷ bodies_asked design m (visits (way design (suc last) depth inner name spec rest)))) (sym after)
    (on_to_next design r (first_of inner name spec depth rest) (tail_of design last depth inner rest (design.facts spec)) n fits))

pub goes_on : (design : Design) (levels below last depth other budget n left : ℕ) (path inner : Path) (at name : Option Spot) (spec : Spec) (steps rest : List Step) (facts : Facts) (cost : ℕ) (child : Child) → levels ≡ suc below → below ≡ suc last → other ≡ depth + 1 → budget ≡ suc n → left ≡ n - cost → Costs facts cost ≡ answer_of design (OfBody spec n) → Some child ≡ list.find (leads steps) facts.children → inner ≡ inside path child.path → name ≡ token_place facts.scopes child.token → rest ≡ drop (length child.path.steps) steps → LeadsTo design budget (way design levels depth path at spec steps) (settle design left (way design below other inner name child.spec rest)) (OfBody spec n ∷ bodies_asked design left (visits (way design below other inner name child.spec rest)))
goes_on design levels below last depth other budget n left path inner at name spec steps rest facts cost child more deep one some after told found inner_is name_is rest_is =
    let s = so_done design spec n facts cost told in
    let r = first_of path at spec depth steps in
    let behind = λ (m : ℕ). way design below m inner name child.spec rest in
    let whole : way design levels depth path at spec steps ≡ r ∷ behind (depth + 1) =
    whole_way design levels below depth path at spec steps facts more s.1 ∙ ap (λ (w : List Reached). r ∷ w) (next_way design below depth path inner name steps rest facts child found inner_is name_is rest_is) in
    let left_is : left ≡ n - design.cost spec = after ∙ ap (λ (c : ℕ). n - c) (sym s.2) in
    subst (λ (m : ℕ). LeadsTo design budget (way design levels depth path at spec steps) (settle design left (behind m)) (OfBody spec n ∷ bodies_asked design left (visits (behind m)))) (sym one)
    (subst (λ (w : List Reached). LeadsTo design budget w (settle design left (behind (depth + 1))) (OfBody spec n ∷ bodies_asked design left (visits (behind (depth + 1))))) (sym whole)
    (subst (λ (b : ℕ). LeadsTo design b (r ∷ behind (depth + 1)) (settle design left (behind (depth + 1))) (OfBody spec n ∷ bodies_asked design left (visits (behind (depth + 1))))) (sym some)
    (on_to design r below last (depth + 1) n left inner name child.spec rest deep left_is s.0)))

-- the way ends at an instance
alone : (design : Design) (r : Reached) (n : ℕ) → nat_le (design.cost r.visit.spec) n ≡ true → LeadsTo design (suc n) (r ∷ []) (ends_at (design.facts r.visit.spec) r (n - design.cost r.visit.spec)) (OfBody r.visit.spec n ∷ [])
alone design r n fits =
    let cost = design.cost r.visit.spec in
    let within = leb-true cost n fits in
    let left : suc n - (1 + cost + 0) ≡ n - cost = omega (arith, within) in
    record {
      settled = ap (λ (b : Bool). cond b (end_of design (r ∷ []) (suc n - (1 + cost + 0))) Spent) (le-leb (1 + cost + 0) (suc n) (omega (arith, within)))
          ∙ ap (λ (m : ℕ). ends_at (design.facts r.visit.spec) r m) left;
      asked = ap (λ (b : Bool). OfBody r.visit.spec n ∷ cond b [] []) fits;
    }

pub ends_here : (design : Design) (levels below depth budget n left : ℕ) (path : Path) (at : Option Spot) (spec : Spec) (steps : List Step) (facts : Facts) (cost : ℕ) → levels ≡ suc below → (None ≡ list.find (leads steps) facts.children) ⊎ (below ≡ 0) → budget ≡ suc n → left ≡ n - cost → Costs facts cost ≡ answer_of design (OfBody spec n) → LeadsTo design budget (way design levels depth path at spec steps) (ends_at facts (first_of path at spec depth steps) left) (OfBody spec n ∷ [])
ends_here design levels below depth budget n left path at spec steps facts cost more last some after told =
    let s = so_done design spec n facts cost told in
    let r = first_of path at spec depth steps in
    let only : way design levels depth path at spec steps ≡ r ∷ [] = whole_way design levels below depth path at spec steps facts more s.1 ∙ ap (λ (w : List Reached). r ∷ w) (none_behind design below depth path steps facts last) in
    let left_is : n - design.cost spec ≡ left = ap (λ (c : ℕ). n - c) s.2 ∙ sym after in
    subst (λ (w : List Reached). LeadsTo design budget w (ends_at facts r left) (OfBody spec n ∷ [])) (sym only)
    (subst (λ (b : ℕ). LeadsTo design b (r ∷ []) (ends_at facts r left) (OfBody spec n ∷ [])) (sym some)
    (subst (λ (f : Facts). LeadsTo design (suc n) (r ∷ []) (ends_at f r left) (OfBody spec n ∷ [])) s.1
    (subst (λ (m : ℕ). LeadsTo design (suc n) (r ∷ []) (ends_at (design.facts spec) r m) (OfBody spec n ∷ [])) left_is
    (alone design r n s.0))))

-- the body of the first instance is asked for
pub asks_body : (design : Design) (levels below depth budget n : ℕ) (path : Path) (at : Option Spot) (spec : Spec) (steps : List Step) → levels ≡ suc below → budget ≡ suc n → Contains (bodies_asked design budget (visits (way design levels depth path at spec steps))) (OfBody spec n)
asks_body design levels below depth budget n path at spec steps more some =
    let r = first_of path at spec depth steps in
    let rest = visits (tail_of design below depth path steps (design.facts spec)) in
    let whole : bodies_asked design budget (visits (way design levels depth path at spec steps)) ≡ OfBody spec n ∷ cond (nat_le (design.cost spec) n) (bodies_asked design (n - design.cost spec) rest) [] =
    ap (λ (w : List Reached). bodies_asked design budget (visits w)) (whole_way design levels below depth path at spec steps (design.facts spec) more refl) ∙ asks_next design r.visit rest budget n (nat_le (design.cost spec) n) some refl in
    subst (λ (qs : List Question). Contains qs (OfBody spec n)) (sym whole) (first_in (OfBody spec n) (cond (nat_le (design.cost spec) n) (bodies_asked design (n - design.cost spec) rest) []))

-- the next instance on a way, where one is left
pub next_is : (levels : ℕ) (o : Option Child) (child : Child) → Some child ≡ cond (nat_lt 1 levels) o None → (1 < levels) × (Some child ≡ o)
next_is levels o child e = by (nat_lt 1 levels) refl e
  where
    by : (b : Bool) → nat_lt 1 levels ≡ b → Some child ≡ cond b o None → (1 < levels) × (Some child ≡ o)
    by true h e = (ltb-true 1 levels h, e)
    by false h e = absurd (cc)

pub none_is : (levels below : ℕ) (o : Option Child) → levels ≡ suc below → None ≡ cond (nat_lt 1 levels) o None → (None ≡ o) ⊎ (below ≡ 0)
none_is levels below o more e = by (nat_lt 1 levels) refl e
  where
    by : (b : Bool) → nat_lt 1 levels ≡ b → None ≡ cond b o None → (None ≡ o) ⊎ (below ≡ 0)
    by true h e = inl e
    by false h e = let low = ltb-false 1 levels h in inr (omega (arith, more, low))

-- a way begins at the top that its first step names
pub top_way : (design : Design) (path first : Path) (top : Spec) (rest : List Step) → Some top ≡ list.find (names_top path.steps) design.tops → first ≡ top_path top → rest ≡ drop 1 path.steps → way design 64 1 first None top rest ≡ along design path
top_way design path first top rest found first_is rest_is =
    ap (λ (p : Path). way design 64 1 p None top rest) first_is ∙ ap (λ (r : List Step). way design 64 1 (top_path top) None top r) rest_is
    ∙ ap (λ (o : Option Spec). through (λ (t : Spec). way design 64 1 (top_path t) None t (drop 1 path.steps)) o) found

pub no_way : (design : Design) (path : Path) → None ≡ list.find (names_top path.steps) design.tops → along design path ≡ []
no_way design path none = ap (λ (o : Option Spec). through (λ (t : Spec). way design 64 1 (top_path t) None t (drop 1 path.steps)) o) (sym none)

pub nowhere : (design : Design) (budget : ℕ) (path : Path) → None ≡ list.find (names_top path.steps) design.tops → (Nowhere ≡ find design budget path) × (OfTops ∷ [] ≡ find_asks design budget path)
nowhere design budget path none =
    let e = sym (no_way design path none) in (
      sym (ap (λ (b : Bool). cond b (end_of design [] (budget - 0)) Spent) (le-leb 0 budget (omega arith))) ∙ ap (settle design budget) e,
      ap (λ (w : List Reached). OfTops ∷ bodies_asked design budget (visits w)) e,
    )

-- one error for another
pub where_err : {R E : Type 0} {P Q : Type 0} (r : Result R E) → (P → Q) → IfErr r (λ (e : E). P) → IfErr r (λ (e : E). Q)
where_err (Ok x) f h = tt
where_err (Err e) f h = f h

-- what a call leaves that goes on behind one question
pub asked_in_all : {R E : Type 0} (r : Result R E) (question : Question) (some all : List Question) (old now new : Option (List Question)) → all ≡ question ∷ some → now ≡ asked_on (question ∷ []) old → OnOk r (new ≡ asked_on some now) → OnOk r (new ≡ asked_on all old)
asked_in_all (Ok x) question some all old now new whole first rest =
    rest ∙ ap (λ (o : Option (List Question)). asked_on some o) first ∙ asked_further question some old ∙ ap (λ (qs : List Question). asked_on qs old) (sym whole)
asked_in_all (Err e) question some all old now new whole first rest = tt

pub halted_in_all : {R E : Type 0} (r : Result R E) (tells now : Tells Answer) (question : Question) (some all : List Question) (old between new : Option Question) → all ≡ question ∷ some → TellSame tells now → between ≡ old → IfErr r (λ (e : E). HaltedAmong now some between new) → IfErr r (λ (e : E). HaltedAmong tells all old new)
halted_in_all r tells now question some all old between new whole same still h =
    where_err r (halts_in tells now all some old between new same still (λ q c. subst (λ (qs : List Question). Contains qs q) (sym whole) (later_in question q some c))) h

-- what was asked where a call asks nothing, or one question
pub asked_nothing : (all : List Question) (asked : Option (List Question)) → all ≡ [] → asked ≡ asked_on all asked
asked_nothing all asked none = sym (ap (λ (qs : List Question). asked_on qs asked) none ∙ asked_none asked)

pub asked_one : (all : List Question) (question : Question) (old new : Option (List Question)) → all ≡ question ∷ [] → new ≡ asked_on (question ∷ []) old → new ≡ asked_on all old
asked_one all question old new one is = is ∙ ap (λ (qs : List Question). asked_on qs old) (sym one)
