-- Instances that are paid for and shown one after the other.
use Rattle.std.proofs.Common.{◌≡◌, ℕ, zero, suc, ◌+◌, ◌-◌, ◌<◌, ◌≤◌, Bool, true, false, cond, Option, List, [], ◌∷◌, ◌++◌, map, length, get_or, drop, refl, ap, sym, ◌∙◌, subst, arith}
use Rattle.std.specs.Prelude.{nat_le}
use Rattle.std.specs.List.{Contains, flat_map}
use Rattle.std.proofs.lemmas.List.{append_assoc, append-nil, drop_all}
use Rattle.std.proofs.lemmas.Bool.{leb-true, leb-false}
use Rattle.sve_told.specs.Told.{asked_on}
use Rattle.sve_facts.specs.declared.facts.Child.{Child}
use Rattle.sve_facts.specs.declared.facts.Facts.{Facts}
use Rattle.sve_facts.specs.Bodies.{Design, Question, OfBody, Costs, answer_of}
use Rattle.sve_design.specs.declared.visits.Visit.{Visit}
use Rattle.sve_design.specs.Walk.{cost_of_all, inside, subtree}
use Rattle.sve_design.specs.Paying.{bodies_asked}
use Rattle.sve_design.proofs.Accounts.{asked_none, asked_further, asks_next, next_at, so_done}
use Rattle.sve_design.proofs.Asked.{asks_behind}
use Rattle.sve_survey.specs.Seen.{Instance, visit_of, child_visit, paid_for, seen_below}
use Rattle.sve_survey.specs.Visitors.{VisitorState, having_seen, having_seen_all}
use Rattle.sve_survey.specs.Showing.{Progress, asking, shown, show_first, show_all}
use Rattle.sve_survey.proofs.Visits.{visits_below}

-- two parts
abbrev pub on_shown : {A : Type 0} → Bool × Progress A → (Progress A → Bool × Progress A) → Bool × Progress A
on_shown (true, p) rest = rest p
on_shown (false, p) rest = (false, p)

first-append : {A : Type 0} (design : Design) (i : Instance) (left : ℕ) (p : Progress A) (f g h : Progress A → Bool × Progress A) → ((q : Progress A) → h q ≡ on_shown (f q) g) → show_first design i left p h ≡ on_shown (show_first design i left p f) g
first-append design i zero p f g h e = refl
first-append design i (suc left) p f g h e = by (nat_le (design.cost i.visit.spec) left)
  where
    by : (b : Bool) → cond b (h (shown design i left p)) (false, asking i left p) ≡ on_shown (cond b (f (shown design i left p)) (false, asking i left p)) g
    by true = e (shown design i left p)
    by false = refl

show_all-append : {A : Type 0} (design : Design) (is js : List Instance) (p : Progress A) → show_all design (is ++ js) p ≡ on_shown (show_all design is p) (show_all design js)
show_all-append design [] js p = refl
show_all-append design (i ∷ is) js p = first-append design i p.left p (show_all design is) (show_all design js) (show_all design (is ++ js)) (λ q. show_all-append design is js q)

-- what is so once an instance with this body was shown
abbrev pub showing : {A : Type 0} → Visit → List (List ℕ) → ℕ → Progress A → Facts → ℕ → Progress A
showing visit unconnected left p facts cost = record { visitor = having_seen (record { visit = visit; unconnected = unconnected; facts = facts }) p.visitor; left = left - cost; asked = asked_on (OfBody visit.spec left ∷ []) p.asked }

pub progress_is : {A : Type 0} (v w : VisitorState A) (l m : ℕ) (o p : Option (List Question)) → v ≡ w → l ≡ m → o ≡ p → ◌≡◌ {A = Progress A} (record { visitor = v; left = l; asked = o }) (record { visitor = w; left = m; asked = p })
progress_is {A} v w l m o p e f g =
    ap (λ (x : VisitorState A). record { visitor = x; left = l; asked = o }) e ∙ ap (λ (n : ℕ). record { visitor = w; left = n; asked = o }) f ∙ ap (λ (x : Option (List Question)). record { visitor = w; left = m; asked = x }) g

-- an instance is entered: what is left to show is what is below it
pub entered : {A : Type 0} (design : Design) (levels below left : ℕ) (visit : Visit) (unconnected : List (List ℕ)) (facts : Facts) (cost : ℕ) (children : List Child) (p q : Progress A) → levels ≡ suc below → p.left ≡ suc left → Costs facts cost ≡ answer_of design (OfBody visit.spec left) → children ≡ facts.children → q ≡ showing visit unconnected left p facts cost → show_all design (seen_below design levels visit unconnected) p ≡ show_all design (flat_map (λ (child : Child). seen_below design below (child_visit visit child) child.unconnected) children) q
entered design levels below left visit unconnected facts cost children p q more some told same after =
    let i : Instance = record { visit = visit; unconnected = unconnected; facts = design.facts visit.spec } in
    let f = λ (child : Child). seen_below design below (child_visit visit child) child.unconnected in
    let s = so_done design visit.spec left facts cost told in
    let rest = show_all design (flat_map f (design.facts visit.spec).children) in
    ap (λ (n : ℕ). show_all design (seen_below design n visit unconnected) p) more ∙ ap (λ (n : ℕ). show_first design i n p rest) some ∙ ap (λ (x : Bool). cond x (rest (shown design i left p)) (false, asking i left p)) s.0
    ∙ ap (λ (cs : List Child). show_all design (flat_map f cs) (shown design i left p)) (ap (λ (x : Facts). x.children) s.1 ∙ sym same)
    ∙ ap (show_all design (flat_map f children)) (ap (λ (x : Facts). showing visit unconnected left p x (design.cost visit.spec)) s.1 ∙ ap (λ (n : ℕ). showing visit unconnected left p facts n) s.2 ∙ sym after)

-- with the next one of a list from a place on
pub shown_at : {A : Type 0} {X : Type 0} (design : Design) (f : X → List Instance) (xs : List X) (i : ℕ) (x : X) (part : List Instance) (p q : Progress A) (r : Bool) → i < length xs → x ≡ get_or xs i x → part ≡ f x → (r, q) ≡ show_all design part p → show_all design (flat_map f (drop i xs)) p ≡ on_shown (r, q) (show_all design (flat_map f (drop (i + 1) xs)))
shown_at {A} design f xs i x part p q r lt e same h =
    ap (λ l. show_all design (flat_map f l) p) (next_at xs i x lt e) ∙ show_all-append design (f x) (flat_map f (drop (i + 1) xs)) p
    ∙ ap (λ (s : Bool × Progress A). on_shown s (show_all design (flat_map f (drop (i + 1) xs)))) (sym (h ∙ ap (λ (is : List Instance). show_all design is p) same))

-- the part that a child gives
pub child_part : (design : Design) (levels : ℕ) (visit below : Visit) (names : List (List ℕ)) (child : Child) → below ≡ child_visit visit child → names ≡ child.unconnected → seen_below design levels below names ≡ seen_below design levels (child_visit visit child) child.unconnected
child_part design levels visit below names child e f =
    ap (λ (v : Visit). seen_below design levels v names) e ∙ ap (λ (ns : List (List ℕ)). seen_below design levels (child_visit visit child) ns) f

pub child_tree : (design : Design) (levels : ℕ) (visit below : Visit) (child : Child) → below ≡ child_visit visit child → subtree design levels below.depth below.path below.spec ≡ subtree design levels (visit.depth + 1) (inside visit.path child.path) child.spec
child_tree design levels visit below child e = ap (λ (v : Visit). subtree design levels v.depth v.path v.spec) e

-- none is left
pub shown_end : {A : Type 0} {X : Type 0} (design : Design) (f : X → List Instance) (xs : List X) (i : ℕ) (p : Progress A) → length xs ≤ i → show_all design (flat_map f (drop i xs)) p ≡ (true, p)
shown_end design f xs i p le = ap (λ l. show_all design (flat_map f l) p) (drop_all i xs le)

-- what all of it comes to
pub record IsShown {A : Type 0} (design : Design) (is : List Instance) (p q : Progress A) : Type 0 where
  pub enough : cost_of_all design (map visit_of is) ≤ p.left
  pub visitor : q.visitor ≡ having_seen_all is p.visitor
  pub left : q.left ≡ p.left - cost_of_all design (map visit_of is)
  pub asked : q.asked ≡ asked_on (bodies_asked design p.left (map visit_of is)) p.asked

pub record IsSpent {A : Type 0} (design : Design) (is : List Instance) (p q : Progress A) : Type 0 where
  pub dear : p.left < cost_of_all design (map visit_of is)
  pub visitor : q.visitor ≡ having_seen_all (paid_for design p.left is) p.visitor
  pub asked : q.asked ≡ asked_on (bodies_asked design p.left (map visit_of is)) p.asked

abbrev pub ComesTo : {A : Type 0} → Design → List Instance → Progress A → Bool × Progress A → Type 0
ComesTo design is p (true, q) = IsShown design is p q
ComesTo design is p (false, q) = IsSpent design is p q

seen_none : {A : Type 0} (v : VisitorState A) → v ≡ having_seen_all [] v
seen_none {A} v = ap (λ (held : List A). record v { held = held }) (sym (append-nil v.held))

seen_further : {A : Type 0} (i : Instance) (is : List Instance) (v : VisitorState A) → having_seen_all is (having_seen i v) ≡ having_seen_all (i ∷ is) v
seen_further {A} i is v = ap (λ (held : List A). record v { held = held }) (append_assoc v.held (v.meaning i) (flat_map v.meaning is))

paid_next : (design : Design) (i : Instance) (is : List Instance) (left n : ℕ) (b : Bool) → left ≡ suc n → nat_le (design.cost i.visit.spec) n ≡ b → paid_for design left (i ∷ is) ≡ cond b (i ∷ paid_for design (n - design.cost i.visit.spec) is) []
paid_next design i is left n b e h =
    ap (λ (l : ℕ). paid_for design l (i ∷ is)) e ∙ ap (λ (x : Bool). cond x (i ∷ paid_for design (n - design.cost i.visit.spec) is) []) h

behind_shown : {A : Type 0} (design : Design) (i : Instance) (is : List Instance) (n : ℕ) (p : Progress A) (r : Bool × Progress A) → p.left ≡ suc n → nat_le (design.cost i.visit.spec) n ≡ true → ComesTo design is (shown design i n p) r → ComesTo design (i ∷ is) p r
behind_shown design i is n p (true, q) e h s =
    let fits = leb-true (design.cost i.visit.spec) n h in
    let enough = s.enough in
    let left = s.left in
    record {
      enough = omega (arith, e, fits, enough);
      visitor = s.visitor ∙ seen_further i is p.visitor;
      left = left ∙ omega (arith, e, fits, enough);
      asked = s.asked ∙ asked_further (OfBody i.visit.spec n) (bodies_asked design (n - design.cost i.visit.spec) (map visit_of is)) p.asked ∙ ap (λ (qs : List Question). asked_on qs p.asked) (sym (asks_next design i.visit (map visit_of is) p.left n true e h));
    }
behind_shown design i is n p (false, q) e h s =
    let fits = leb-true (design.cost i.visit.spec) n h in
    let dear = s.dear in
    record {
      dear = omega (arith, e, fits, dear);
      visitor = s.visitor ∙ seen_further i (paid_for design (n - design.cost i.visit.spec) is) p.visitor ∙ ap (λ (js : List Instance). having_seen_all js p.visitor) (sym (paid_next design i is p.left n true e h));
      asked = s.asked ∙ asked_further (OfBody i.visit.spec n) (bodies_asked design (n - design.cost i.visit.spec) (map visit_of is)) p.asked ∙ ap (λ (qs : List Question). asked_on qs p.asked) (sym (asks_next design i.visit (map visit_of is) p.left n true e h));
    }

first_comes_to : {A : Type 0} (design : Design) (i : Instance) (is : List Instance) (left : ℕ) (p : Progress A) → p.left ≡ left → ((q : Progress A) → ComesTo design is q (show_all design is q)) → ComesTo design (i ∷ is) p (show_first design i left p (show_all design is))
first_comes_to design i is zero p e rest = record {
  dear = omega (arith, e);
  visitor = seen_none p.visitor ∙ ap (λ (n : ℕ). having_seen_all (paid_for design n (i ∷ is)) p.visitor) (sym e);
  asked = sym (asked_none p.asked) ∙ ap (λ (n : ℕ). asked_on (bodies_asked design n (map visit_of (i ∷ is))) p.asked) (sym e);
}
first_comes_to design i is (suc n) p e rest = by (nat_le (design.cost i.visit.spec) n) refl
  where
    by : (b : Bool) → nat_le (design.cost i.visit.spec) n ≡ b → ComesTo design (i ∷ is) p (cond b (show_all design is (shown design i n p)) (false, asking i n p))
    by true h = behind_shown design i is n p (show_all design is (shown design i n p)) e h (rest (shown design i n p))
    by false h =
        let dear = leb-false (design.cost i.visit.spec) n h in
        record {
          dear = omega (arith, e, dear);
          visitor = seen_none p.visitor ∙ ap (λ (js : List Instance). having_seen_all js p.visitor) (sym (paid_next design i is p.left n false e h));
          asked = ap (λ (qs : List Question). asked_on qs p.asked) (sym (asks_next design i.visit (map visit_of is) p.left n false e h));
        }

pub comes_to : {A : Type 0} (design : Design) (is : List Instance) (p : Progress A) → ComesTo design is p (show_all design is p)
comes_to design [] p = record { enough = omega arith; visitor = seen_none p.visitor; left = omega arith; asked = sym (asked_none p.asked) }
comes_to design (i ∷ is) p = first_comes_to design i is p.left p refl (λ q. comes_to design is q)

-- behind one of some things that was shown, what is left asks for what all of them do
pub asks_rest : {A : Type 0} {X : Type 0} (design : Design) (f : X → List Visit) (xs : List X) (i : ℕ) (x : X) (levels : ℕ) (visit : Visit) (unconnected : List (List ℕ)) (p q : Progress A) (question : Question) → i < length xs → x ≡ get_or xs i x → subtree design levels visit.depth visit.path visit.spec ≡ f x → (true, q) ≡ show_all design (seen_below design levels visit unconnected) p → Contains (bodies_asked design q.left (flat_map f (drop (i + 1) xs))) question → Contains (bodies_asked design p.left (flat_map f (drop i xs))) question
asks_rest {A} design f xs i x levels visit unconnected p q question lt e same h c =
    let part = seen_below design levels visit unconnected in
    let s : IsShown design part p q = subst (λ (r : Bool × Progress A). ComesTo design part p r) (sym h) (comes_to design part p) in
    let visits : map visit_of part ≡ f x = visits_below design levels visit unconnected ∙ same in
    let enough : cost_of_all design (f x) ≤ p.left = subst (λ (vs : List Visit). cost_of_all design vs ≤ p.left) visits s.enough in
    let left : q.left ≡ p.left - cost_of_all design (f x) = s.left ∙ ap (λ (vs : List Visit). p.left - cost_of_all design vs) visits in
    subst (λ ys. Contains (bodies_asked design p.left (flat_map f ys)) question) (sym (next_at xs i x lt e))
    (asks_behind design (f x) (flat_map f (drop (i + 1) xs)) p.left question enough (subst (λ (n : ℕ). Contains (bodies_asked design n (flat_map f (drop (i + 1) xs))) question) left c))
