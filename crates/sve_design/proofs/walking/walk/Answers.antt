use Rattle.std.proofs.Common.{◌≡◌, Some, Bool, true, false, refl, ap, ◌∙◌, subst, arith, rules}
use Rattle.sve_spec.specs.declared.spec.Spec.{Spec}
use Rattle.sve_facts.specs.Bodies.{OfTops}
use Rattle.sve_design.specs.Walk.{inside, subtree, top_path, instances}
use Rattle.sve_design.specs.Paying.{bodies_asked, pay_all, walk_asks}
use Rattle.sve_design.proofs.Accounts.{paid_at, paid_end, asked_further}
use Rattle.sve_design.proofs.Asked.{asks_one, asks_rest, first_in, halts_at, halts_in, halts_not, if_err, later_in}
use Rattle.sve_design.proofs.Walks.{walked, spent, asked_for, top_part}
use Rattle.sve_design.proofs.walking.walk.Goals as goal

pub returns-then-not-branch-clause-walk : goal.returns-then-not-branch-clause-walk
returns-then-not-branch-clause-walk g c = λ design of.
    let top = c.top-item.result in
    let f = λ (t : Spec). subtree design 64 1 (top_path t) t in
    let within = c.in_ok-enter.ensures.paid design (λ q a h. of q a ((c.tops.invariant.tells q a).1 h)) in
    let here = subst (λ (r : Bool). (r, record { visits = c.enter.new.progress.visits.items; left = c.enter.new.progress.left; asked = g.B.Bodies.asked c.enter.new.bodies }) ≡ pay_all design (subtree design 64 1 (inside (record { steps = c.of.result }) c.in_ok-path.path) top) (record { visits = c.tops.progress.visits.items; left = c.tops.progress.left; asked = g.B.Bodies.asked c.tops.bodies })) c.if-not-branch.true within in
    spent design _ _ (c.tops.invariant.paid design of ∙ paid_at design f c.items-top-items.result.now c.tops.top-index top (subtree design 64 1 (inside (record { steps = c.of.result }) c.in_ok-path.path) top) _ _ false (omega arith) c.top-item.is (top_part design top c.of.result c.in_ok-path.path (search rules) c.in_ok-path.ensures) here)

pub returns-then-not-branch-clause-asked : goal.returns-then-not-branch-clause-asked
returns-then-not-branch-clause-asked g c = λ design of.
    let top = c.top-item.result in
    let f = λ (t : Spec). subtree design 64 1 (top_path t) t in
    let within = c.in_ok-enter.ensures.paid design (λ q a h. of q a ((c.tops.invariant.tells q a).1 h)) in
    let here = subst (λ (r : Bool). (r, record { visits = c.enter.new.progress.visits.items; left = c.enter.new.progress.left; asked = g.B.Bodies.asked c.enter.new.bodies }) ≡ pay_all design (subtree design 64 1 (inside (record { steps = c.of.result }) c.in_ok-path.path) top) (record { visits = c.tops.progress.visits.items; left = c.tops.progress.left; asked = g.B.Bodies.asked c.tops.bodies })) c.if-not-branch.true within in
    asked_for design (instances design) _ _ false (c.tops.invariant.paid design of ∙ paid_at design f c.items-top-items.result.now c.tops.top-index top (subtree design 64 1 (inside (record { steps = c.of.result }) c.in_ok-path.path) top) _ _ false (omega arith) c.top-item.is (top_part design top c.of.result c.in_ok-path.path (search rules) c.in_ok-path.ensures) here)
    ∙ asked_further OfTops (bodies_asked design c.args.budget (instances design)) (g.B.Bodies.asked c.args.bodies.now)

pub tops-preserved : goal.tops-preserved
tops-preserved g c = record {
  tells = λ q a. (λ h. (c.in_ok-enter.ensures.tells q a).0 ((c.tops.invariant.tells q a).0 h), λ h. (c.tops.invariant.tells q a).1 ((c.in_ok-enter.ensures.tells q a).1 h));
  keeps = g.met.B.Bodies.keeps_on _ _ _ c.tops.invariant.keeps c.in_ok-enter.ensures.keeps;
  not_halted = c.in_ok-enter.ensures.not_halted ∙ c.tops.invariant.not_halted;
  not_stopped = c.in_ok-enter.ensures.not_stopped ∙ c.tops.invariant.not_stopped;
  paid = λ design of.
      let top = c.top-item.result in
      let f = λ (t : Spec). subtree design 64 1 (top_path t) t in
      let within = c.in_ok-enter.ensures.paid design (λ q a h. of q a ((c.tops.invariant.tells q a).1 h)) in
      let here = subst (λ (r : Bool). (r, record { visits = c.enter.new.progress.visits.items; left = c.enter.new.progress.left; asked = g.B.Bodies.asked c.enter.new.bodies }) ≡ pay_all design (subtree design 64 1 (inside (record { steps = c.of.result }) c.in_ok-path.path) top) (record { visits = c.tops.progress.visits.items; left = c.tops.progress.left; asked = g.B.Bodies.asked c.tops.bodies })) c.if-not-branch.false within in
      c.tops.invariant.paid design of ∙ paid_at design f c.items-top-items.result.now c.tops.top-index top (subtree design 64 1 (inside (record { steps = c.of.result }) c.in_ok-path.path) top) _ _ true (omega arith) c.top-item.is (top_part design top c.of.result c.in_ok-path.path (search rules) c.in_ok-path.ensures) here;
  asks = λ design of q h.
      let top = c.top-item.result in
      let f = λ (t : Spec). subtree design 64 1 (top_path t) t in
      let part = subtree design 64 1 (inside (record { steps = c.of.result }) c.in_ok-path.path) top in
      let within = c.in_ok-enter.ensures.paid design (λ q a h. of q a ((c.tops.invariant.tells q a).1 h)) in
      let here = subst (λ (r : Bool). (r, record { visits = c.enter.new.progress.visits.items; left = c.enter.new.progress.left; asked = g.B.Bodies.asked c.enter.new.bodies }) ≡ pay_all design part (record { visits = c.tops.progress.visits.items; left = c.tops.progress.left; asked = g.B.Bodies.asked c.tops.bodies })) c.if-not-branch.false within in
      c.tops.invariant.asks design of q (asks_rest design f c.items-top-items.result.now c.tops.top-index top part _ _ q (omega arith) c.top-item.is (top_part design top c.of.result c.in_ok-path.path (search rules) c.in_ok-path.ensures) here h);
}

pub returns-in_err-tops-clause-halted : goal.returns-in_err-tops-clause-halted
returns-in_err-tops-clause-halted g c = λ design of. if_err _ (halts_at (g.B.Bodies.tells c.args.bodies.now) (walk_asks design c.args.budget) _ _ OfTops (first_in OfTops (bodies_asked design c.args.budget (instances design))) c.in_err-tops.ensures.halted)

pub returns-in_err-path-clause-halted : goal.returns-in_err-path-clause-halted
returns-in_err-path-clause-halted g c = λ design of. if_err _ (halts_not (g.B.Bodies.tells c.args.bodies.now) (walk_asks design c.args.budget) _ _ c.tops.invariant.not_halted)

pub returns-in_err-enter-clause-halted : goal.returns-in_err-enter-clause-halted
returns-in_err-enter-clause-halted g c = λ design of.
    let top = c.top-item.result in
    let f = λ (t : Spec). subtree design 64 1 (top_path t) t in
    let part = subtree design 64 1 (inside (record { steps = c.of.result }) c.in_ok-path.path) top in
    if_err _ (halts_in (g.B.Bodies.tells c.args.bodies.now) _ (walk_asks design c.args.budget) (bodies_asked design c.tops.progress.left part) _ _ _ c.tops.invariant.tells c.tops.invariant.not_halted
    (λ q h. later_in OfTops q (bodies_asked design c.args.budget (instances design))
    (c.tops.invariant.asks design of q (asks_one design f c.items-top-items.result.now c.tops.top-index top part c.tops.progress.left q (omega arith) c.top-item.is (top_part design top c.of.result c.in_ok-path.path (search rules) c.in_ok-path.ensures) h)))
    (c.in_err-enter.ensures.halted design (λ q a h. of q a ((c.tops.invariant.tells q a).1 h))))

pub returns-clause-walk : goal.returns-clause-walk
returns-clause-walk g c = λ design of.
    let f = λ (t : Spec). subtree design 64 1 (top_path t) t in
    ap Some c.of-2.ensures ∙ walked design _ _ refl (c.tops.invariant.paid design of ∙ paid_end design f c.items-top-items.result.now c.tops.top-index _ (omega arith))

pub returns-clause-asked : goal.returns-clause-asked
returns-clause-asked g c = λ design of.
    let f = λ (t : Spec). subtree design 64 1 (top_path t) t in
    asked_for design (instances design) _ _ true (c.tops.invariant.paid design of ∙ paid_end design f c.items-top-items.result.now c.tops.top-index _ (omega arith))
    ∙ asked_further OfTops (bodies_asked design c.args.budget (instances design)) (g.B.Bodies.asked c.args.bodies.now)
