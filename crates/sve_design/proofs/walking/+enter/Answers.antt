use Rattle.std.proofs.Common.{◌≡◌, ◌+◌, ◌-◌, Bool, true, false, refl, ap, sym, ◌∙◌, subst, arith}
use Rattle.std.specs.Arc.{arc_value}
use Rattle.sve_facts.specs.declared.facts.Child.{Child}
use Rattle.sve_facts.specs.declared.facts.Facts.{Facts}
use Rattle.sve_facts.specs.Bodies.{OfBody, answer_of, body_value}
use Rattle.sve_design.specs.Walk.{inside, subtree}
use Rattle.sve_design.specs.Paying.{bodies_asked, pay_all}
use Rattle.sve_design.proofs.Accounts.{entered, paid_at, child_part, account_is}
use Rattle.sve_design.proofs.Asked.{asks_below, asks_itself, asks_one, asks_rest, halts_at, halts_in, if_err}
use Rattle.sve_design.proofs.walking.+enter.Goals as goal

pub children-init : goal.children-init
children-init g t c = record {
  tells = c.in_ok-body.ensures.tells;
  keeps = c.in_ok-body.ensures.keeps;
  not_halted = c.in_ok-body.ensures.not_halted;
  not_stopped = c.in_ok-body.ensures.not_stopped;
  paid = λ design of.
      let fuel = c.args.progress.now.left - 1 in
      let told = subst (λ b. body_value b ≡ answer_of design (OfBody c.args.spec.now fuel)) c.in-Done.is (of (OfBody c.args.spec.now fuel) _ c.in_ok-body.ensures.found) in
      let children : c.items-below-items.result.now ≡ (arc_value c.in-Done.facts).children = c.items-below-items.ensures ∙ ap (λ (f : Facts). f.children) c.deref.ensures in
      entered design c.args.levels (c.args.levels - 1) (65 - c.args.levels) fuel (inside c.args.parent.now c.args.child.now) c.args.spec.now (arc_value c.in-Done.facts) c.in-Done.cost c.items-below-items.result.now _ _ (omega arith) (omega arith) told children
      (account_is _ _ _ _ _ _ c.in_ok-path.ensures.visits refl c.in_ok-body.ensures.asked);
  asks = λ design of q h.
      let fuel = c.args.progress.now.left - 1 in
      let told = subst (λ b. body_value b ≡ answer_of design (OfBody c.args.spec.now fuel)) c.in-Done.is (of (OfBody c.args.spec.now fuel) _ c.in_ok-body.ensures.found) in
      let children : c.items-below-items.result.now ≡ (arc_value c.in-Done.facts).children = c.items-below-items.ensures ∙ ap (λ (f : Facts). f.children) c.deref.ensures in
      asks_below design c.args.levels (c.args.levels - 1) (65 - c.args.levels) c.args.progress.now.left fuel (inside c.args.parent.now c.args.child.now) c.args.spec.now (arc_value c.in-Done.facts) c.in-Done.cost c.items-below-items.result.now q (omega arith) (omega arith) told children h;
}

pub returns-in_err-body-clause-halted : goal.returns-in_err-body-clause-halted
returns-in_err-body-clause-halted g t c = λ design of.
    if_err _ (halts_at (g.B.Bodies.tells c.args.bodies.now) (bodies_asked design c.args.progress.now.left (subtree design c.args.levels (65 - c.args.levels) (inside c.args.parent.now c.args.child.now) c.args.spec.now)) _ _ (OfBody c.args.spec.now (c.args.progress.now.left - 1)) (asks_itself design c.args.levels (c.args.levels - 1) (65 - c.args.levels) c.args.progress.now.left (c.args.progress.now.left - 1) (inside c.args.parent.now c.args.child.now) c.args.spec.now (omega arith) (omega arith)) c.in_err-body.ensures.halted)

pub returns-then-not-branch-clause-paid : goal.returns-then-not-branch-clause-paid
returns-then-not-branch-clause-paid g t c = λ design of.
    let child = c.below-item.result in
    let f = λ (k : Child). subtree design (c.args.levels - 1) (65 - c.args.levels + 1) (inside (inside c.args.parent.now c.args.child.now) k.path) k.spec in
    let within = c.in_ok-enter.ensures.paid design (λ q a h. of q a ((c.children.invariant.tells q a).1 h)) in
    let here = subst (λ (r : Bool). (r, record { visits = c.enter.new.progress.visits.items; left = c.enter.new.progress.left; asked = g.B.Bodies.asked c.enter.new.bodies }) ≡ pay_all design (subtree design (c.args.levels - 1) (65 - (c.args.levels - 1)) (inside c.in_ok-path.path child.path) child.spec) (record { visits = c.children.progress.visits.items; left = c.children.progress.left; asked = g.B.Bodies.asked c.children.bodies })) c.if-not-branch.true within in
    sym (c.children.invariant.paid design of ∙ paid_at design f c.items-below-items.result.now c.children.below-index child (subtree design (c.args.levels - 1) (65 - (c.args.levels - 1)) (inside c.in_ok-path.path child.path) child.spec) _ _ false (omega arith) c.below-item.is
    (child_part design (c.args.levels - 1) (65 - c.args.levels) (65 - (c.args.levels - 1)) (inside c.args.parent.now c.args.child.now) c.in_ok-path.path child (omega arith) c.in_ok-path.ensures.path) here)

pub returns-in_err-enter-clause-halted : goal.returns-in_err-enter-clause-halted
returns-in_err-enter-clause-halted g t c = λ design of.
    let child = c.below-item.result in
    let f = λ (k : Child). subtree design (c.args.levels - 1) (65 - c.args.levels + 1) (inside (inside c.args.parent.now c.args.child.now) k.path) k.spec in
    let part = subtree design (c.args.levels - 1) (65 - (c.args.levels - 1)) (inside c.in_ok-path.path child.path) child.spec in
    if_err _ (halts_in (g.B.Bodies.tells c.args.bodies.now) _ _ (bodies_asked design c.children.progress.left part) _ _ _ c.children.invariant.tells c.children.invariant.not_halted
    (λ q h. c.children.invariant.asks design of q
    (asks_one design f c.items-below-items.result.now c.children.below-index child part c.children.progress.left q (omega arith) c.below-item.is
    (child_part design (c.args.levels - 1) (65 - c.args.levels) (65 - (c.args.levels - 1)) (inside c.args.parent.now c.args.child.now) c.in_ok-path.path child (omega arith) c.in_ok-path.ensures.path) h))
    (c.in_err-enter.ensures.halted design (λ q a h. of q a ((c.children.invariant.tells q a).1 h))))

pub children-preserved : goal.children-preserved
children-preserved g t c = record {
  tells = λ q a. (λ h. (c.in_ok-enter.ensures.tells q a).0 ((c.children.invariant.tells q a).0 h), λ h. (c.children.invariant.tells q a).1 ((c.in_ok-enter.ensures.tells q a).1 h));
  keeps = g.met.B.Bodies.keeps_on _ _ _ c.children.invariant.keeps c.in_ok-enter.ensures.keeps;
  not_halted = c.in_ok-enter.ensures.not_halted ∙ c.children.invariant.not_halted;
  not_stopped = c.in_ok-enter.ensures.not_stopped ∙ c.children.invariant.not_stopped;
  paid = λ design of.
      let child = c.below-item.result in
      let f = λ (k : Child). subtree design (c.args.levels - 1) (65 - c.args.levels + 1) (inside (inside c.args.parent.now c.args.child.now) k.path) k.spec in
      let within = c.in_ok-enter.ensures.paid design (λ q a h. of q a ((c.children.invariant.tells q a).1 h)) in
      let here = subst (λ (r : Bool). (r, record { visits = c.enter.new.progress.visits.items; left = c.enter.new.progress.left; asked = g.B.Bodies.asked c.enter.new.bodies }) ≡ pay_all design (subtree design (c.args.levels - 1) (65 - (c.args.levels - 1)) (inside c.in_ok-path.path child.path) child.spec) (record { visits = c.children.progress.visits.items; left = c.children.progress.left; asked = g.B.Bodies.asked c.children.bodies })) c.if-not-branch.false within in
      c.children.invariant.paid design of ∙ paid_at design f c.items-below-items.result.now c.children.below-index child (subtree design (c.args.levels - 1) (65 - (c.args.levels - 1)) (inside c.in_ok-path.path child.path) child.spec) _ _ true (omega arith) c.below-item.is
      (child_part design (c.args.levels - 1) (65 - c.args.levels) (65 - (c.args.levels - 1)) (inside c.args.parent.now c.args.child.now) c.in_ok-path.path child (omega arith) c.in_ok-path.ensures.path) here;
  asks = λ design of q h.
      let child = c.below-item.result in
      let f = λ (k : Child). subtree design (c.args.levels - 1) (65 - c.args.levels + 1) (inside (inside c.args.parent.now c.args.child.now) k.path) k.spec in
      let part = subtree design (c.args.levels - 1) (65 - (c.args.levels - 1)) (inside c.in_ok-path.path child.path) child.spec in
      let within = c.in_ok-enter.ensures.paid design (λ q a h. of q a ((c.children.invariant.tells q a).1 h)) in
      let here = subst (λ (r : Bool). (r, record { visits = c.enter.new.progress.visits.items; left = c.enter.new.progress.left; asked = g.B.Bodies.asked c.enter.new.bodies }) ≡ pay_all design part (record { visits = c.children.progress.visits.items; left = c.children.progress.left; asked = g.B.Bodies.asked c.children.bodies })) c.if-not-branch.false within in
      c.children.invariant.asks design of q
      (asks_rest design f c.items-below-items.result.now c.children.below-index child part _ _ q (omega arith) c.below-item.is
      (child_part design (c.args.levels - 1) (65 - c.args.levels) (65 - (c.args.levels - 1)) (inside c.args.parent.now c.args.child.now) c.in_ok-path.path child (omega arith) c.in_ok-path.ensures.path) here h);
}
