-- One instance on the way, and then the rest of it.
use Rattle.std.proofs.Common.{◌≡◌, ◌-◌, ◌⊎◌, None, Some, List, length, drop, refl, ap, sym, ◌∙◌, subst, arith}
use Rattle.std.specs.Prelude.{IfOk, cond, nat_lt, option_map}
use Rattle.std.specs.Arc.{arc_value}
use Rattle.std.specs.List as list
use Rattle.sve_bytes.specs.declared.path.Step.{Step}
use Rattle.sve_facts.specs.declared.facts.Child.{Child}
use Rattle.sve_facts.specs.declared.facts.Facts.{Facts}
use Rattle.sve_facts.specs.Bodies.{OfBody, answer_of, body_value}
use Rattle.sve_design.proofs.Asked.{halts_at, if_err}
use Rattle.sve_design.specs.Paying.{bodies_asked}
use Rattle.sve_find.specs.Along.{leads, visits, way}
use Rattle.sve_find.specs.Ends.{find_value, token_place}
use Rattle.sve_find.proofs.Ways.{asked_in_all, asked_nothing, asked_one, asks_body, costs_more, ends_here, goes_on, halted_in_all, next_is, none_is, nothing_left}
use Rattle.sve_find.proofs.finding.+follow.Goals as goal

pub returns-then-budget-eq0-clause-settled : goal.returns-then-budget-eq0-clause-settled
returns-then-budget-eq0-clause-settled g t c = λ design of.
    sym (nothing_left design c.args.levels (c.args.levels - 1) (65 - c.args.levels) c.args.budget c.args.here.path c.args.here.at c.args.spec.now c.args.steps.now (omega arith) (omega arith)).settled

pub returns-then-budget-eq0-clause-asked : goal.returns-then-budget-eq0-clause-asked
returns-then-budget-eq0-clause-asked g t c = λ design of.
    asked_nothing _ _ (nothing_left design c.args.levels (c.args.levels - 1) (65 - c.args.levels) c.args.budget c.args.here.path c.args.here.at c.args.spec.now c.args.steps.now (omega arith) (omega arith)).asked

pub returns-in_err-body-clause-halted : goal.returns-in_err-body-clause-halted
returns-in_err-body-clause-halted g t c = λ design of.
    if_err _ (halts_at (g.B.Bodies.tells c.args.bodies.now) (bodies_asked design c.args.budget (visits (way design c.args.levels (65 - c.args.levels) c.args.here.path c.args.here.at c.args.spec.now c.args.steps.now))) _ _ (OfBody c.args.spec.now (c.args.budget - 1))
    (asks_body design c.args.levels (c.args.levels - 1) (65 - c.args.levels) c.args.budget (c.args.budget - 1) c.args.here.path c.args.here.at c.args.spec.now c.args.steps.now (omega arith) (omega arith)) c.in_err-body.ensures.halted)

pub returns-in-Over-clause-settled : goal.returns-in-Over-clause-settled
returns-in-Over-clause-settled g t c = λ design of.
    let fuel = c.args.budget - 1 in
    let told = subst (λ b. body_value b ≡ answer_of design (OfBody c.args.spec.now fuel)) c.in-Over.is (of (OfBody c.args.spec.now fuel) _ c.in_ok-body.ensures.found) in
    let over = costs_more design c.args.levels (c.args.levels - 1) (65 - c.args.levels) c.args.budget fuel c.args.here.path c.args.here.at c.args.spec.now c.args.steps.now (omega arith) (omega arith) told in
    sym over.settled

pub returns-in-Over-clause-asked : goal.returns-in-Over-clause-asked
returns-in-Over-clause-asked g t c = λ design of.
    let fuel = c.args.budget - 1 in
    let told = subst (λ b. body_value b ≡ answer_of design (OfBody c.args.spec.now fuel)) c.in-Over.is (of (OfBody c.args.spec.now fuel) _ c.in_ok-body.ensures.found) in
    let over = costs_more design c.args.levels (c.args.levels - 1) (65 - c.args.levels) c.args.budget fuel c.args.here.path c.args.here.at c.args.spec.now c.args.steps.now (omega arith) (omega arith) told in
    asked_one _ _ _ _ over.asked c.in_ok-body.ensures.asked

pub returns-in_ok-below-in-Some-clause-settled : goal.returns-in_ok-below-in-Some-clause-settled
returns-in_ok-below-in-Some-clause-settled g t c = λ design of.
    let spec = c.args.spec.now in
    let steps = c.args.steps.now in
    let levels = c.args.levels in
    let fuel = c.args.budget - 1 in
    let facts : Facts = arc_value c.in-Done.facts in
    let child : Child = c.in-Some.child.now in
    let told = subst (λ b. body_value b ≡ answer_of design (OfBody spec fuel)) c.in-Done.is (of (OfBody spec fuel) _ c.in_ok-body.ensures.found) in
    let items : c.items.result.now ≡ facts.children = c.items.ensures ∙ ap (λ (f : Facts). f.children) c.deref.ensures in
    let found : Some child ≡ cond (nat_lt 1 levels) (list.find (leads steps) c.items.result.now) None = subst (λ o. option_map (λ r. r.now) o ≡ cond (nat_lt 1 levels) (list.find (leads steps) c.items.result.now) None) c.in-Some.is c.next_within.ensures in
    let next = next_is levels (list.find (leads steps) c.items.result.now) child found in
    let name = ap (λ b. b.at) c.in_ok-below-in-Some.ensures ∙ ap (λ (f : Facts). token_place f.scopes child.token) c.deref-in-Some.ensures in
    let rest : c.behind-rest.result.now ≡ drop (length child.path.steps) steps = c.behind-rest.ensures ∙ ap (λ (l : List Step). drop (length l) steps) c.items-in-Some.ensures in
    let far = goes_on design levels (levels - 1) (levels - 2) (65 - levels) (65 - (levels - 1)) c.args.budget fuel (fuel - c.in-Done.cost) c.args.here.path c.in_ok-below-in-Some.below.path c.args.here.at c.in_ok-below-in-Some.below.at spec steps c.behind-rest.result.now facts c.in-Done.cost child
    (omega arith) (omega (arith, next.0)) (omega (arith, next.0)) (omega arith) refl told (next.1 ∙ ap (list.find (leads steps)) items) (ap (λ b. b.path) c.in_ok-below-in-Some.ensures) name rest in
    subst (λ v. IfOk c.follow.result (λ found. find_value found ≡ v)) (sym far.settled) (c.follow.ensures.settled design (λ q a h. of q a ((c.in_ok-body.ensures.tells q a).1 h)))

pub returns-in_ok-below-in-Some-clause-asked : goal.returns-in_ok-below-in-Some-clause-asked
returns-in_ok-below-in-Some-clause-asked g t c = λ design of.
    let spec = c.args.spec.now in
    let steps = c.args.steps.now in
    let levels = c.args.levels in
    let fuel = c.args.budget - 1 in
    let facts : Facts = arc_value c.in-Done.facts in
    let child : Child = c.in-Some.child.now in
    let told = subst (λ b. body_value b ≡ answer_of design (OfBody spec fuel)) c.in-Done.is (of (OfBody spec fuel) _ c.in_ok-body.ensures.found) in
    let items : c.items.result.now ≡ facts.children = c.items.ensures ∙ ap (λ (f : Facts). f.children) c.deref.ensures in
    let found : Some child ≡ cond (nat_lt 1 levels) (list.find (leads steps) c.items.result.now) None = subst (λ o. option_map (λ r. r.now) o ≡ cond (nat_lt 1 levels) (list.find (leads steps) c.items.result.now) None) c.in-Some.is c.next_within.ensures in
    let next = next_is levels (list.find (leads steps) c.items.result.now) child found in
    let name = ap (λ b. b.at) c.in_ok-below-in-Some.ensures ∙ ap (λ (f : Facts). token_place f.scopes child.token) c.deref-in-Some.ensures in
    let rest : c.behind-rest.result.now ≡ drop (length child.path.steps) steps = c.behind-rest.ensures ∙ ap (λ (l : List Step). drop (length l) steps) c.items-in-Some.ensures in
    let far = goes_on design levels (levels - 1) (levels - 2) (65 - levels) (65 - (levels - 1)) c.args.budget fuel (fuel - c.in-Done.cost) c.args.here.path c.in_ok-below-in-Some.below.path c.args.here.at c.in_ok-below-in-Some.below.at spec steps c.behind-rest.result.now facts c.in-Done.cost child
    (omega arith) (omega (arith, next.0)) (omega (arith, next.0)) (omega arith) refl told (next.1 ∙ ap (list.find (leads steps)) items) (ap (λ b. b.path) c.in_ok-below-in-Some.ensures) name rest in
    asked_in_all c.follow.result (OfBody spec fuel) _ _ _ _ _ far.asked c.in_ok-body.ensures.asked (c.follow.ensures.asked design (λ q a h. of q a ((c.in_ok-body.ensures.tells q a).1 h)))

pub returns-in_ok-below-in-Some-clause-halted : goal.returns-in_ok-below-in-Some-clause-halted
returns-in_ok-below-in-Some-clause-halted g t c = λ design of.
    let spec = c.args.spec.now in
    let steps = c.args.steps.now in
    let levels = c.args.levels in
    let fuel = c.args.budget - 1 in
    let facts : Facts = arc_value c.in-Done.facts in
    let child : Child = c.in-Some.child.now in
    let told = subst (λ b. body_value b ≡ answer_of design (OfBody spec fuel)) c.in-Done.is (of (OfBody spec fuel) _ c.in_ok-body.ensures.found) in
    let items : c.items.result.now ≡ facts.children = c.items.ensures ∙ ap (λ (f : Facts). f.children) c.deref.ensures in
    let found : Some child ≡ cond (nat_lt 1 levels) (list.find (leads steps) c.items.result.now) None = subst (λ o. option_map (λ r. r.now) o ≡ cond (nat_lt 1 levels) (list.find (leads steps) c.items.result.now) None) c.in-Some.is c.next_within.ensures in
    let next = next_is levels (list.find (leads steps) c.items.result.now) child found in
    let name = ap (λ b. b.at) c.in_ok-below-in-Some.ensures ∙ ap (λ (f : Facts). token_place f.scopes child.token) c.deref-in-Some.ensures in
    let rest : c.behind-rest.result.now ≡ drop (length child.path.steps) steps = c.behind-rest.ensures ∙ ap (λ (l : List Step). drop (length l) steps) c.items-in-Some.ensures in
    let far = goes_on design levels (levels - 1) (levels - 2) (65 - levels) (65 - (levels - 1)) c.args.budget fuel (fuel - c.in-Done.cost) c.args.here.path c.in_ok-below-in-Some.below.path c.args.here.at c.in_ok-below-in-Some.below.at spec steps c.behind-rest.result.now facts c.in-Done.cost child
    (omega arith) (omega (arith, next.0)) (omega (arith, next.0)) (omega arith) refl told (next.1 ∙ ap (list.find (leads steps)) items) (ap (λ b. b.path) c.in_ok-below-in-Some.ensures) name rest in
    halted_in_all c.follow.result (g.B.Bodies.tells c.args.bodies.now) _ (OfBody spec fuel) _ _ _ _ _ far.asked c.in_ok-body.ensures.tells c.in_ok-body.ensures.not_halted (c.follow.ensures.halted design (λ q a h. of q a ((c.in_ok-body.ensures.tells q a).1 h)))

pub returns-in_ok-ended-in-None-clause-settled : goal.returns-in_ok-ended-in-None-clause-settled
returns-in_ok-ended-in-None-clause-settled g t c = λ design of.
    let spec = c.args.spec.now in
    let steps = c.args.steps.now in
    let levels = c.args.levels in
    let fuel = c.args.budget - 1 in
    let facts : Facts = arc_value c.in-Done.facts in
    let told = subst (λ b. body_value b ≡ answer_of design (OfBody spec fuel)) c.in-Done.is (of (OfBody spec fuel) _ c.in_ok-body.ensures.found) in
    let items : c.items.result.now ≡ facts.children = c.items.ensures ∙ ap (λ (f : Facts). f.children) c.deref.ensures in
    let none : None ≡ cond (nat_lt 1 levels) (list.find (leads steps) c.items.result.now) None = subst (λ o. option_map (λ r. r.now) o ≡ cond (nat_lt 1 levels) (list.find (leads steps) c.items.result.now) None) c.in-None.is c.next_within.ensures in
    let last = subst (λ (cs : List Child). (None ≡ list.find (leads steps) cs) ⊎ (levels - 1 ≡ 0)) items (none_is levels (levels - 1) (list.find (leads steps) c.items.result.now) (omega arith) none) in
    let ends = ends_here design levels (levels - 1) (65 - levels) c.args.budget fuel (fuel - c.in-Done.cost) c.args.here.path c.args.here.at spec steps facts c.in-Done.cost (omega arith) last (omega arith) refl told in
    c.in_ok-ended-in-None.ensures ∙ sym ends.settled

pub returns-in_ok-ended-in-None-clause-asked : goal.returns-in_ok-ended-in-None-clause-asked
returns-in_ok-ended-in-None-clause-asked g t c = λ design of.
    let spec = c.args.spec.now in
    let steps = c.args.steps.now in
    let levels = c.args.levels in
    let fuel = c.args.budget - 1 in
    let facts : Facts = arc_value c.in-Done.facts in
    let told = subst (λ b. body_value b ≡ answer_of design (OfBody spec fuel)) c.in-Done.is (of (OfBody spec fuel) _ c.in_ok-body.ensures.found) in
    let items : c.items.result.now ≡ facts.children = c.items.ensures ∙ ap (λ (f : Facts). f.children) c.deref.ensures in
    let none : None ≡ cond (nat_lt 1 levels) (list.find (leads steps) c.items.result.now) None = subst (λ o. option_map (λ r. r.now) o ≡ cond (nat_lt 1 levels) (list.find (leads steps) c.items.result.now) None) c.in-None.is c.next_within.ensures in
    let last = subst (λ (cs : List Child). (None ≡ list.find (leads steps) cs) ⊎ (levels - 1 ≡ 0)) items (none_is levels (levels - 1) (list.find (leads steps) c.items.result.now) (omega arith) none) in
    let ends = ends_here design levels (levels - 1) (65 - levels) c.args.budget fuel (fuel - c.in-Done.cost) c.args.here.path c.args.here.at spec steps facts c.in-Done.cost (omega arith) last (omega arith) refl told in
    asked_one _ _ _ _ ends.asked c.in_ok-body.ensures.asked
