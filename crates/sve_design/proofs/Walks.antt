-- What a whole walk comes to.
use Rattle.std.proofs.Common.{◌≡◌, Bool, true, false, cond, Some, None, List, [], ◌++◌, ap, sym, ◌∙◌, subst}
use Rattle.std.proofs.lemmas.Bool.{le-leb, lt-leb}
use Rattle.sve_bytes.specs.declared.path.Path.{Path}
use Rattle.sve_bytes.specs.declared.path.Step.{Step}
use Rattle.sve_spec.specs.declared.spec.Spec.{Spec}
use Rattle.sve_told.specs.Told.{asked_on}
use Rattle.sve_facts.specs.Bodies.{Design}
use Rattle.sve_design.specs.declared.visits.Visit.{Visit}
use Rattle.sve_design.specs.Walk.{inside, top_path, subtree, instances, walk, cost_of_all}
use Rattle.sve_design.specs.Paying.{Account, bodies_asked, pay_all}
use Rattle.sve_design.proofs.Accounts.{IsPaid, IsSpent, ComesTo, comes_to}

pub walked : (design : Design) (a b : Account) → a.visits ≡ [] → pay_all design (instances design) a ≡ (true, b) → Some b.visits ≡ walk design a.left
walked design a b none e =
    let p : IsPaid design (instances design) a b = subst (λ (r : Bool × Account). ComesTo design (instances design) a r) e (comes_to design (instances design) a) in
    ap Some (p.visits ∙ ap (λ (vs : List Visit). vs ++ instances design) none) ∙ sym (ap (λ (x : Bool). cond x (Some (instances design)) None) (le-leb (cost_of_all design (instances design)) a.left p.enough))

pub spent : (design : Design) (a b : Account) → pay_all design (instances design) a ≡ (false, b) → None ≡ walk design a.left
spent design a b e =
    let p : IsSpent design (instances design) a b = subst (λ (r : Bool × Account). ComesTo design (instances design) a r) e (comes_to design (instances design) a) in
    sym (ap (λ (x : Bool). cond x (Some (instances design)) None) (lt-leb (cost_of_all design (instances design)) a.left p.dear))

asked_by : (design : Design) (vs : List Visit) (a b : Account) (r : Bool) → ComesTo design vs a (r, b) → b.asked ≡ asked_on (bodies_asked design a.left vs) a.asked
asked_by design vs a b true p = p.asked
asked_by design vs a b false p = p.asked

pub asked_for : (design : Design) (vs : List Visit) (a b : Account) (r : Bool) → pay_all design vs a ≡ (r, b) → b.asked ≡ asked_on (bodies_asked design a.left vs) a.asked
asked_for design vs a b r e = asked_by design vs a b r (subst (λ (x : Bool × Account). ComesTo design vs a x) e (comes_to design vs a))

-- the part that a top gives, below a root of no steps
pub top_part : (design : Design) (top : Spec) (steps : List Step) (path : Path) → steps ≡ [] → path ≡ top_path top → subtree design 64 1 (inside (record { steps = steps }) path) top ≡ subtree design 64 1 (top_path top) top
top_part design top steps path none e =
    ap (λ (xs : List Step). subtree design 64 1 (inside (record { steps = xs }) path) top) none ∙ ap (λ (p : Path). subtree design 64 1 p top) e
