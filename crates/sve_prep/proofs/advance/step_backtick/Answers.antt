use Rattle.std.proofs.Common.{List, ℕ, sym, ap, ◌∙◌, not}
use Rattle.std.proofs.lemmas.Result.{IfOk-weaker}
use Rattle.sve_unread.specs.Bytes.{Byte, ahead}
use Rattle.sve_directive.specs.Directives.{directive_at}
use Rattle.sve_prep.specs.Uses.{Goes}
use Rattle.sve_prep.specs.Step.{step_head, step_backtick}
use Rattle.sve_prep.specs.View.{view}
use Rattle.sve_prep.proofs.Cases.{followed, backtick_skips, backtick_follows}
use Rattle.sve_prep.proofs.Loops.{asks_nothing, steps_as, halts_as}
use Rattle.sve_prep.proofs.advance.step_backtick.Goals as goal

pub returns-then-is_skipped-clause-step : goal.returns-then-is_skipped-clause-step
returns-then-is_skipped-clause-step g c =
    let s = view c.args.work.now (g.T.Texts.asked c.args.texts.now) in
    asks_nothing _ _ _ (λ told. backtick_skips told (ahead c.args.work.now.rest) s (c.is_skipped.ensures ∙ ap (λ (t : List ℕ). not (followed t s)) c.ahead-text.ensures) c.if-is_skipped.true
    ∙ ap (λ (r : List Byte). Goes (record s { rest = r })) (sym c.skip.ensures.rest))

pub returns-clause-step : goal.returns-clause-step
returns-clause-step g c =
    let s = view c.args.work.now (g.T.Texts.asked c.args.texts.now) in
    IfOk-weaker c.step_head.result _ _ (λ on h. steps_as _ (λ told. step_backtick told (ahead c.args.work.now.rest) s) (λ told. step_head told c.in_ok-directive.directive c.in_ok-directive.count s) _
    (λ told. backtick_follows told (ahead c.args.work.now.rest) s c.in_ok-directive.directive c.in_ok-directive.count (c.is_skipped.ensures ∙ ap (λ (t : List ℕ). not (followed t s)) c.ahead-text.ensures) c.if-is_skipped.false (c.in_ok-directive.ensures.head ∙ ap directive_at c.ahead-text.ensures)) h) c.step_head.ensures.step

pub returns-clause-halted : goal.returns-clause-halted
returns-clause-halted g c =
    let s = view c.args.work.now (g.T.Texts.asked c.args.texts.now) in
    halts_as (g.T.Texts.tells c.args.texts.now) _ _ _ _ (λ told. step_backtick told (ahead c.args.work.now.rest) s) (λ told. step_head told c.in_ok-directive.directive c.in_ok-directive.count s)
    (λ told. backtick_follows told (ahead c.args.work.now.rest) s c.in_ok-directive.directive c.in_ok-directive.count (c.is_skipped.ensures ∙ ap (λ (t : List ℕ). not (followed t s)) c.ahead-text.ensures) c.if-is_skipped.false (c.in_ok-directive.ensures.head ∙ ap directive_at c.ahead-text.ensures)) c.step_head.ensures.halted
