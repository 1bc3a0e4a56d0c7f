use Rattle.std.proofs.Common.{◌≡◌, Bool, true, false, [], ◌∙◌, subst, arith}
use Rattle.sve_spec.specs.declared.spec.Spec.{Spec}
use Rattle.sve_facts.specs.Bodies.{OfTops}
use Rattle.sve_design.specs.Walk.{subtree, top_path, instances}
use Rattle.sve_design.specs.Paying.{bodies_asked, walk_asks}
use Rattle.sve_design.proofs.Accounts.{asked_further}
use Rattle.sve_design.proofs.Asked.{asks_one, first_in, halts_at, halts_in, if_err, later_in}
use Rattle.sve_survey.specs.Seen.{seen_below, top_visit}
use Rattle.sve_survey.specs.Showing.{show_all}
use Rattle.sve_survey.proofs.Shows.{shown_at, shown_end, asks_rest}
use Rattle.sve_survey.proofs.Surveys.{is_enough, asked_for, all_seen, first_seen, top_part, top_tree}
use Rattle.sve_survey.proofs.surveying.survey.Goals as goal

pub returns-then-not-branch-clause-enough : goal.returns-then-not-branch-clause-enough
returns-then-not-branch-clause-enough g c = λ design of.
    let top = c.top-item.result in
    let visit = c.in_ok-visit.visit in
    let f = λ (t : Spec). seen_below design 64 (top_visit t) [] in
    let within = c.in_ok-enter.ensures.shown design (λ q a h. of q a ((c.tops.invariant.tells q a).1 h)) in
    let here = subst (λ (r : Bool). (r, record { visitor = g.V.Visitor.state c.enter.new.visitor; left = c.enter.new.left; asked = g.B.Bodies.asked c.enter.new.bodies }) ≡ show_all design (seen_below design 64 visit []) (record { visitor = g.V.Visitor.state c.tops.visitor; left = c.tops.left; asked = g.B.Bodies.asked c.tops.bodies })) c.if-not-branch.true within in
    is_enough design _ _ false
    (c.tops.invariant.shown design of ∙ shown_at design f c.items-top-items.result.now c.tops.top-index top (seen_below design 64 visit []) _ _ false (omega arith) c.top-item.is (top_part design top visit c.in_ok-visit.ensures) here)

pub returns-then-not-branch-clause-asked : goal.returns-then-not-branch-clause-asked
returns-then-not-branch-clause-asked g c = λ design of.
    let top = c.top-item.result in
    let visit = c.in_ok-visit.visit in
    let f = λ (t : Spec). seen_below design 64 (top_visit t) [] in
    let within = c.in_ok-enter.ensures.shown design (λ q a h. of q a ((c.tops.invariant.tells q a).1 h)) in
    let here = subst (λ (r : Bool). (r, record { visitor = g.V.Visitor.state c.enter.new.visitor; left = c.enter.new.left; asked = g.B.Bodies.asked c.enter.new.bodies }) ≡ show_all design (seen_below design 64 visit []) (record { visitor = g.V.Visitor.state c.tops.visitor; left = c.tops.left; asked = g.B.Bodies.asked c.tops.bodies })) c.if-not-branch.true within in
    asked_for design _ _ false
    (c.tops.invariant.shown design of ∙ shown_at design f c.items-top-items.result.now c.tops.top-index top (seen_below design 64 visit []) _ _ false (omega arith) c.top-item.is (top_part design top visit c.in_ok-visit.ensures) here)
    ∙ asked_further OfTops (bodies_asked design c.args.budget (instances design)) (g.B.Bodies.asked c.args.bodies.now)

pub returns-then-not-branch-clause-spent : goal.returns-then-not-branch-clause-spent
returns-then-not-branch-clause-spent g c = λ design of spent.
    let top = c.top-item.result in
    let visit = c.in_ok-visit.visit in
    let f = λ (t : Spec). seen_below design 64 (top_visit t) [] in
    let within = c.in_ok-enter.ensures.shown design (λ q a h. of q a ((c.tops.invariant.tells q a).1 h)) in
    let here = subst (λ (r : Bool). (r, record { visitor = g.V.Visitor.state c.enter.new.visitor; left = c.enter.new.left; asked = g.B.Bodies.asked c.enter.new.bodies }) ≡ show_all design (seen_below design 64 visit []) (record { visitor = g.V.Visitor.state c.tops.visitor; left = c.tops.left; asked = g.B.Bodies.asked c.tops.bodies })) c.if-not-branch.true within in
    first_seen design _ _
    (c.tops.invariant.shown design of ∙ shown_at design f c.items-top-items.result.now c.tops.top-index top (seen_below design 64 visit []) _ _ false (omega arith) c.top-item.is (top_part design top visit c.in_ok-visit.ensures) here)

pub tops-preserved : goal.tops-preserved
tops-preserved g c = record {
  tells = λ q a. (λ h. (c.in_ok-enter.ensures.tells q a).0 ((c.tops.invariant.tells q a).0 h), λ h. (c.tops.invariant.tells q a).1 ((c.in_ok-enter.ensures.tells q a).1 h));
  keeps = g.met.B.Bodies.keeps_on _ _ _ c.tops.invariant.keeps c.in_ok-enter.ensures.keeps;
  not_halted = c.in_ok-enter.ensures.not_halted ∙ c.tops.invariant.not_halted;
  not_stopped = c.in_ok-enter.ensures.not_stopped ∙ c.tops.invariant.not_stopped;
  shown = λ design of.
      let top = c.top-item.result in
      let visit = c.in_ok-visit.visit in
      let f = λ (t : Spec). seen_below design 64 (top_visit t) [] in
      let within = c.in_ok-enter.ensures.shown design (λ q a h. of q a ((c.tops.invariant.tells q a).1 h)) in
      let here = subst (λ (r : Bool). (r, record { visitor = g.V.Visitor.state c.enter.new.visitor; left = c.enter.new.left; asked = g.B.Bodies.asked c.enter.new.bodies }) ≡ show_all design (seen_below design 64 visit []) (record { visitor = g.V.Visitor.state c.tops.visitor; left = c.tops.left; asked = g.B.Bodies.asked c.tops.bodies })) c.if-not-branch.false within in
      c.tops.invariant.shown design of ∙ shown_at design f c.items-top-items.result.now c.tops.top-index top (seen_below design 64 visit []) _ _ true (omega arith) c.top-item.is (top_part design top visit c.in_ok-visit.ensures) here;
  asks = λ design of q h.
      let top = c.top-item.result in
      let visit = c.in_ok-visit.visit in
      let f = λ (t : Spec). subtree design 64 1 (top_path t) t in
      let within = c.in_ok-enter.ensures.shown design (λ q a h. of q a ((c.tops.invariant.tells q a).1 h)) in
      let here = subst (λ (r : Bool). (r, record { visitor = g.V.Visitor.state c.enter.new.visitor; left = c.enter.new.left; asked = g.B.Bodies.asked c.enter.new.bodies }) ≡ show_all design (seen_below design 64 visit []) (record { visitor = g.V.Visitor.state c.tops.visitor; left = c.tops.left; asked = g.B.Bodies.asked c.tops.bodies })) c.if-not-branch.false within in
      c.tops.invariant.asks design of q (asks_rest design f c.items-top-items.result.now c.tops.top-index top 64 visit [] _ _ q (omega arith) c.top-item.is (top_tree design top visit c.in_ok-visit.ensures) here h);
}

pub returns-in_err-tops-clause-halted : goal.returns-in_err-tops-clause-halted
returns-in_err-tops-clause-halted g c = λ design of. if_err _ (halts_at (g.B.Bodies.tells c.args.bodies.now) (walk_asks design c.args.budget) _ _ OfTops (first_in OfTops (bodies_asked design c.args.budget (instances design))) c.in_err-tops.ensures.halted)

pub returns-in_err-enter-clause-halted : goal.returns-in_err-enter-clause-halted
returns-in_err-enter-clause-halted g c = λ design of.
    let top = c.top-item.result in
    let visit = c.in_ok-visit.visit in
    let f = λ (t : Spec). subtree design 64 1 (top_path t) t in
    let part = subtree design 64 visit.depth visit.path visit.spec in
    if_err _ (halts_in (g.B.Bodies.tells c.args.bodies.now) _ (walk_asks design c.args.budget) (bodies_asked design c.tops.left part) _ _ _ c.tops.invariant.tells c.tops.invariant.not_halted
    (λ q h. later_in OfTops q (bodies_asked design c.args.budget (instances design))
    (c.tops.invariant.asks design of q (asks_one design f c.items-top-items.result.now c.tops.top-index top part c.tops.left q (omega arith) c.top-item.is (top_tree design top visit c.in_ok-visit.ensures) h)))
    (c.in_err-enter.ensures.halted design (λ q a h. of q a ((c.tops.invariant.tells q a).1 h))))

pub returns-clause-enough : goal.returns-clause-enough
returns-clause-enough g c = λ design of.
    let f = λ (t : Spec). seen_below design 64 (top_visit t) [] in
    is_enough design _ _ true (c.tops.invariant.shown design of ∙ shown_end design f c.items-top-items.result.now c.tops.top-index _ (omega arith))

pub returns-clause-seen : goal.returns-clause-seen
returns-clause-seen g c = λ design of enough.
    let f = λ (t : Spec). seen_below design 64 (top_visit t) [] in
    all_seen design _ _ (c.tops.invariant.shown design of ∙ shown_end design f c.items-top-items.result.now c.tops.top-index _ (omega arith))

pub returns-clause-asked : goal.returns-clause-asked
returns-clause-asked g c = λ design of.
    let f = λ (t : Spec). seen_below design 64 (top_visit t) [] in
    asked_for design _ _ true (c.tops.invariant.shown design of ∙ shown_end design f c.items-top-items.result.now c.tops.top-index _ (omega arith))
    ∙ asked_further OfTops (bodies_asked design c.args.budget (instances design)) (g.B.Bodies.asked c.args.bodies.now)
