-- What a whole survey comes to.
use Rattle.std.proofs.Common.{◌≡◌, Bool, true, false, List, [], map, ap, sym, ◌∙◌, subst}
use Rattle.std.specs.Prelude.{nat_le}
use Rattle.std.proofs.lemmas.Bool.{le-leb, lt-leb}
use Rattle.sve_spec.specs.declared.spec.Spec.{Spec}
use Rattle.sve_told.specs.Told.{asked_on}
use Rattle.sve_facts.specs.Bodies.{Design}
use Rattle.sve_design.specs.declared.visits.Visit.{Visit}
use Rattle.sve_design.specs.Walk.{cost_of_all, instances, subtree, top_path}
use Rattle.sve_design.specs.Paying.{bodies_asked}
use Rattle.sve_survey.specs.Seen.{Instance, paid_for, seen, seen_below, top_visit, visit_of}
use Rattle.sve_survey.specs.Visitors.{having_seen_all}
use Rattle.sve_survey.specs.Showing.{Progress, show_all}
use Rattle.sve_survey.proofs.Visits.{visits_of_all}
use Rattle.sve_survey.proofs.Shows.{IsShown, IsSpent, ComesTo, comes_to}

enough_by : {A : Type 0} (design : Design) (is : List Instance) (p q : Progress A) (r : Bool) → ComesTo design is p (r, q) → r ≡ nat_le (cost_of_all design (map visit_of is)) p.left
enough_by design is p q true s = sym (le-leb (cost_of_all design (map visit_of is)) p.left s.enough)
enough_by design is p q false s = sym (lt-leb (cost_of_all design (map visit_of is)) p.left s.dear)

asked_by : {A : Type 0} (design : Design) (is : List Instance) (p q : Progress A) (r : Bool) → ComesTo design is p (r, q) → q.asked ≡ asked_on (bodies_asked design p.left (map visit_of is)) p.asked
asked_by design is p q true s = s.asked
asked_by design is p q false s = s.asked

-- whether the budget is enough
pub is_enough : {A : Type 0} (design : Design) (p q : Progress A) (r : Bool) → show_all design (seen design) p ≡ (r, q) → r ≡ nat_le (cost_of_all design (instances design)) p.left
is_enough {A} design p q r e =
    enough_by design (seen design) p q r (subst (λ (x : Bool × Progress A). ComesTo design (seen design) p x) e (comes_to design (seen design) p))
    ∙ ap (λ (vs : List Visit). nat_le (cost_of_all design vs) p.left) (visits_of_all design)

-- what was asked for
pub asked_for : {A : Type 0} (design : Design) (p q : Progress A) (r : Bool) → show_all design (seen design) p ≡ (r, q) → q.asked ≡ asked_on (bodies_asked design p.left (instances design)) p.asked
asked_for {A} design p q r e =
    asked_by design (seen design) p q r (subst (λ (x : Bool × Progress A). ComesTo design (seen design) p x) e (comes_to design (seen design) p))
    ∙ ap (λ (vs : List Visit). asked_on (bodies_asked design p.left vs) p.asked) (visits_of_all design)

-- what the visitor holds
pub all_seen : {A : Type 0} (design : Design) (p q : Progress A) → show_all design (seen design) p ≡ (true, q) → q.visitor ≡ having_seen_all (seen design) p.visitor
all_seen {A} design p q e =
    let s : IsShown design (seen design) p q = subst (λ (x : Bool × Progress A). ComesTo design (seen design) p x) e (comes_to design (seen design) p) in
    s.visitor

pub first_seen : {A : Type 0} (design : Design) (p q : Progress A) → show_all design (seen design) p ≡ (false, q) → q.visitor ≡ having_seen_all (paid_for design p.left (seen design)) p.visitor
first_seen {A} design p q e =
    let s : IsSpent design (seen design) p q = subst (λ (x : Bool × Progress A). ComesTo design (seen design) p x) e (comes_to design (seen design) p) in
    s.visitor

-- the part that a top gives
pub top_part : (design : Design) (top : Spec) (visit : Visit) → visit ≡ top_visit top → seen_below design 64 visit [] ≡ seen_below design 64 (top_visit top) []
top_part design top visit e = ap (λ (v : Visit). seen_below design 64 v []) e

pub top_tree : (design : Design) (top : Spec) (visit : Visit) → visit ≡ top_visit top → subtree design 64 visit.depth visit.path visit.spec ≡ subtree design 64 1 (top_path top) top
top_tree design top visit e = ap (λ (v : Visit). subtree design 64 v.depth v.path v.spec) e
