use Rattle.std.proofs.Common.{◌≡◌, ◌+◌, ◌-◌, Bool, true, false, refl, ap, sym, ◌∙◌, subst, arith}
use Rattle.std.specs.Arc.{arc_value}
use Rattle.sve_facts.specs.declared.facts.Child.{Child}
use Rattle.sve_facts.specs.declared.facts.Facts.{Facts}
use Rattle.sve_facts.specs.Bodies.{OfBody, answer_of, body_value}
use Rattle.sve_design.specs.Walk.{inside, subtree}
use Rattle.sve_design.specs.Paying.{bodies_asked}
use Rattle.sve_design.proofs.Asked.{asks_below, asks_itself, asks_one, halts_at, halts_in, if_err}
use Rattle.sve_survey.specs.Seen.{child_visit, seen_below}
use Rattle.sve_survey.specs.Showing.{show_all}
use Rattle.sve_survey.proofs.Shows.{entered, progress_is, shown_at, child_part, child_tree, asks_rest}
use Rattle.sve_survey.proofs.surveying.+enter.Goals as goal

pub children-init : goal.children-init
children-init g t c = record {
  tells = c.in_ok-body.ensures.tells;
  keeps = c.in_ok-body.ensures.keeps;
  not_halted = c.in_ok-body.ensures.not_halted;
  not_stopped = c.in_ok-body.ensures.not_stopped;
  shown = λ design of.
      let fuel = c.args.left.now - 1 in
      let told = subst (λ b. body_value b ≡ answer_of design (OfBody c.args.visit.now.spec fuel)) c.in-Done.is (of (OfBody c.args.visit.now.spec fuel) _ c.in_ok-body.ensures.found) in
      let children : c.items-child-items.result.now ≡ (arc_value c.in-Done.facts).children = c.items-child-items.ensures ∙ ap (λ (f : Facts). f.children) c.deref.ensures in
      entered design c.args.levels (c.args.levels - 1) fuel c.args.visit.now c.args.unconnected.now (arc_value c.in-Done.facts) c.in-Done.cost c.items-child-items.result.now _ _ (omega arith) (omega arith) told children
      (progress_is _ _ _ _ _ _ c.in_ok-visit.ensures refl c.in_ok-body.ensures.asked);
  asks = λ design of q h.
      let fuel = c.args.left.now - 1 in
      let told = subst (λ b. body_value b ≡ answer_of design (OfBody c.args.visit.now.spec fuel)) c.in-Done.is (of (OfBody c.args.visit.now.spec fuel) _ c.in_ok-body.ensures.found) in
      let children : c.items-child-items.result.now ≡ (arc_value c.in-Done.facts).children = c.items-child-items.ensures ∙ ap (λ (f : Facts). f.children) c.deref.ensures in
      asks_below design c.args.levels (c.args.levels - 1) c.args.visit.now.depth c.args.left.now fuel c.args.visit.now.path c.args.visit.now.spec (arc_value c.in-Done.facts) c.in-Done.cost c.items-child-items.result.now q (omega arith) (omega arith) told children h;
}

pub returns-in_err-body-clause-halted : goal.returns-in_err-body-clause-halted
returns-in_err-body-clause-halted g t c = λ design of.
    let visit = c.args.visit.now in
    if_err _ (halts_at (g.B.Bodies.tells c.args.bodies.now) (bodies_asked design c.args.left.now (subtree design c.args.levels visit.depth visit.path visit.spec)) _ _ (OfBody visit.spec (c.args.left.now - 1)) (asks_itself design c.args.levels (c.args.levels - 1) visit.depth c.args.left.now (c.args.left.now - 1) visit.path visit.spec (omega arith) (omega arith)) c.in_err-body.ensures.halted)

pub returns-then-not-branch-clause-shown : goal.returns-then-not-branch-clause-shown
returns-then-not-branch-clause-shown g t c = λ design of.
    let child = c.child-item.result in
    let f = λ (k : Child). seen_below design (c.args.levels - 1) (child_visit c.args.visit.now k) k.unconnected in
    let part = seen_below design (c.args.levels - 1) c.in_ok-below.below c.items-names.result.now in
    let within = c.in_ok-enter.ensures.shown design (λ q a h. of q a ((c.children.invariant.tells q a).1 h)) in
    let here = subst (λ (r : Bool). (r, record { visitor = g.V.Visitor.state c.enter.new.visitor; left = c.enter.new.left; asked = g.B.Bodies.asked c.enter.new.bodies }) ≡ show_all design part (record { visitor = g.V.Visitor.state c.children.visitor; left = c.children.left; asked = g.B.Bodies.asked c.children.bodies })) c.if-not-branch.true within in
    sym (c.children.invariant.shown design of ∙ shown_at design f c.items-child-items.result.now c.children.child-index child part _ _ false (omega arith) c.child-item.is
    (child_part design (c.args.levels - 1) c.args.visit.now c.in_ok-below.below c.items-names.result.now child c.in_ok-below.ensures c.items-names.ensures) here)

pub returns-in_err-enter-clause-halted : goal.returns-in_err-enter-clause-halted
returns-in_err-enter-clause-halted g t c = λ design of.
    let child = c.child-item.result in
    let below = c.in_ok-below.below in
    let f = λ (k : Child). subtree design (c.args.levels - 1) (c.args.visit.now.depth + 1) (inside c.args.visit.now.path k.path) k.spec in
    let part = subtree design (c.args.levels - 1) below.depth below.path below.spec in
    if_err _ (halts_in (g.B.Bodies.tells c.args.bodies.now) _ _ (bodies_asked design c.children.left part) _ _ _ c.children.invariant.tells c.children.invariant.not_halted
    (λ q h. c.children.invariant.asks design of q
    (asks_one design f c.items-child-items.result.now c.children.child-index child part c.children.left q (omega arith) c.child-item.is
    (child_tree design (c.args.levels - 1) c.args.visit.now below child c.in_ok-below.ensures) h))
    (c.in_err-enter.ensures.halted design (λ q a h. of q a ((c.children.invariant.tells q a).1 h))))

pub children-preserved : goal.children-preserved
children-preserved g t c = record {
  tells = λ q a. (λ h. (c.in_ok-enter.ensures.tells q a).0 ((c.children.invariant.tells q a).0 h), λ h. (c.children.invariant.tells q a).1 ((c.in_ok-enter.ensures.tells q a).1 h));
  keeps = g.met.B.Bodies.keeps_on _ _ _ c.children.invariant.keeps c.in_ok-enter.ensures.keeps;
  not_halted = c.in_ok-enter.ensures.not_halted ∙ c.children.invariant.not_halted;
  not_stopped = c.in_ok-enter.ensures.not_stopped ∙ c.children.invariant.not_stopped;
  shown = λ design of.
      let child = c.child-item.result in
      let f = λ (k : Child). seen_below design (c.args.levels - 1) (child_visit c.args.visit.now k) k.unconnected in
      let part = seen_below design (c.args.levels - 1) c.in_ok-below.below c.items-names.result.now in
      let within = c.in_ok-enter.ensures.shown design (λ q a h. of q a ((c.children.invariant.tells q a).1 h)) in
      let here = subst (λ (r : Bool). (r, record { visitor = g.V.Visitor.state c.enter.new.visitor; left = c.enter.new.left; asked = g.B.Bodies.asked c.enter.new.bodies }) ≡ show_all design part (record { visitor = g.V.Visitor.state c.children.visitor; left = c.children.left; asked = g.B.Bodies.asked c.children.bodies })) c.if-not-branch.false within in
      c.children.invariant.shown design of ∙ shown_at design f c.items-child-items.result.now c.children.child-index child part _ _ true (omega arith) c.child-item.is
      (child_part design (c.args.levels - 1) c.args.visit.now c.in_ok-below.below c.items-names.result.now child c.in_ok-below.ensures c.items-names.ensures) here;
  asks = λ design of q h.
      let child = c.child-item.result in
      let below = c.in_ok-below.below in
      let f = λ (k : Child). subtree design (c.args.levels - 1) (c.args.visit.now.depth + 1) (inside c.args.visit.now.path k.path) k.spec in
      let part = seen_below design (c.args.levels - 1) below c.items-names.result.now in
      let within = c.in_ok-enter.ensures.shown design (λ q a h. of q a ((c.children.invariant.tells q a).1 h)) in
      let here = subst (λ (r : Bool). (r, record { visitor = g.V.Visitor.state c.enter.new.visitor; left = c.enter.new.left; asked = g.B.Bodies.asked c.enter.new.bodies }) ≡ show_all design part (record { visitor = g.V.Visitor.state c.children.visitor; left = c.children.left; asked = g.B.Bodies.asked c.children.bodies })) c.if-not-branch.false within in
      c.children.invariant.asks design of q
      (asks_rest design f c.items-child-items.result.now c.children.child-index child (c.args.levels - 1) below c.items-names.result.now _ _ q (omega arith) c.child-item.is
      (child_tree design (c.args.levels - 1) c.args.visit.now below child c.in_ok-below.ensures) here h);
}
