use Rattle.std.proofs.Common.{sym, ap, ◌∙◌}
use Rattle.sve_unread.specs.Bytes.{ahead}
use Rattle.sve_prep.specs.Uses.{Goes}
use Rattle.sve_prep.specs.Step.{step_text, step}
use Rattle.sve_prep.specs.View.{view}
use Rattle.sve_prep.proofs.Cases.{step_left, step_done, step_more, some_rest}
use Rattle.sve_prep.proofs.Loops.{asks_nothing, halts_as}
use Rattle.sve_prep.proofs.advance.advance.Goals as goal

pub returns-then-is_left-clause-step : goal.returns-then-is_left-clause-step
returns-then-is_left-clause-step g c =
    let asked = g.T.Texts.asked c.args.texts.now in
    asks_nothing _ _ _ (λ told. step_left told (view c.args.work.now asked) c.is_left.ensures c.if-is_left.true ∙ ap Goes (sym (c.in_ok-close.ensures asked)))

pub returns-then-is_done-clause-step : goal.returns-then-is_done-clause-step
returns-then-is_done-clause-step g c =
    let asked = g.T.Texts.asked c.args.texts.now in
    asks_nothing _ _ _ (λ told. step_done told (view c.args.work.now asked) c.is_left.ensures c.if-is_left.false (c.is_done.ensures.0 c.if-is_done.true))

pub returns-clause-halted : goal.returns-clause-halted
returns-clause-halted g c =
    let s = view c.args.work.now (g.T.Texts.asked c.args.texts.now) in
    halts_as (g.T.Texts.tells c.args.texts.now) _ _ _ _ (λ told. step told s) (λ told. step_text told (ahead c.args.work.now.rest) s)
    (λ told. step_more told s c.is_left.ensures c.if-is_left.false (some_rest c.args.work.now.rest c.is_done.result c.is_done.ensures.1 c.if-is_done.false)) c.step_text.ensures.halted
