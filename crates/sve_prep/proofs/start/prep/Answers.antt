use Rattle.std.proofs.Common.{ap, ◌∙◌}
use Rattle.std.proofs.lemmas.Result.{err_from_is_err_and}
use Rattle.sve_prep.specs.Told.{text_in}
use Rattle.sve_prep.specs.View.{view}
use Rattle.std.specs.Result.{is_err}
use Rattle.sve_prep.proofs.Loops.{begins, goes_on, smaller, short_text, after_missing, root_wanted, matches_on, wants}
use Rattle.sve_prep.proofs.start.prep.Goals as goal

pub steps-init : goal.steps-init
steps-init g c = record {
  under = begins (g.T.Texts.tells c.args.texts.now) (g.T.Texts.tells c.text.new.self) (g.T.Texts.asked c.args.texts.now) (g.T.Texts.asked c.text.new.self) c.args.root.now (text_in c.in_ok-text.text) (view c.in_ok-work.work) _ _ _ _
      c.in_ok-text.ensures.tells c.in_ok-text.ensures.found (short_text c.in_ok-text.text c.in_ok-text.ensures.short) c.in_ok-work.ensures.named c.in_ok-text.ensures.asked (c.in_ok-work.ensures.begun (g.T.Texts.asked c.args.texts.now)) c.in_ok-text.ensures.not_halted c.in_ok-text.ensures.not_stopped;
  keeps = c.in_ok-text.ensures.keeps;
}

pub steps-smaller : goal.steps-smaller
steps-smaller g c = smaller (g.T.Texts.tells c.steps.texts) c.steps.on _ c.in_ok-on.on _ c.steps-test.true c.in_ok-on.ensures.step

pub steps-preserved : goal.steps-preserved
steps-preserved g c = record {
  under = goes_on c.steps.on _ _ _ _ _ c.in_ok-on.on _ _ _ _ _ _ _ c.steps.invariant.under c.steps-test.true c.in_ok-on.ensures.tells c.in_ok-on.ensures.step c.in_ok-on.ensures.not_halted c.in_ok-on.ensures.not_stopped;
  keeps = g.met.T.Texts.keeps_on _ _ _ c.steps.invariant.keeps c.in_ok-on.ensures.keeps;
}

pub returns-in_err-text-clause-halted : goal.returns-in_err-text-clause-halted
returns-in_err-text-clause-halted g c = λ told m not_halted name e.
    let r = err_from_is_err_and c.from_residual.result c.from_residual.ensures.1 in
    after_missing _ _ name (λ k. c.in_err-text.ensures.halted name k) not_halted e
    (λ a. (ap is_err r.1, root_wanted told (g.T.Texts.tells c.args.texts.now) (g.T.Texts.asked c.args.texts.now) _ c.args.root.now name m a.1 a.2 a.3))

pub returns-in_err-on-clause-halted : goal.returns-in_err-on-clause-halted
returns-in_err-on-clause-halted g c = λ told m not_halted name e.
    let u = c.steps.invariant.under in
    let r = err_from_is_err_and c.from_residual-in_err-on.result c.from_residual-in_err-on.ensures.1 in
    let q = c.in_err-on.ensures.halted told (matches_on told _ _ u.same m) (u.not_halted ∙ not_halted) name e in
    (ap is_err r.1, wants c.steps.on _ _ _ _ _ _ _ _ _ name told u c.steps-test.true m q.1)
