use Rattle.std.proofs.Common.{sym, ap, ◌∙◌}
use Rattle.sve_unread.specs.Bytes.{ahead}
use Rattle.sve_prep.specs.Uses.{Goes}
use Rattle.sve_prep.specs.Step.{step_backtick, step_text}
use Rattle.sve_prep.specs.View.{view}
use Rattle.sve_prep.proofs.Cases.{text_plain, text_backtick, room}
use Rattle.sve_prep.proofs.Loops.{asks_nothing, halts_as}
use Rattle.sve_prep.proofs.advance.step_text.Goals as goal

pub copy-requires-clause-room : goal.copy-requires-clause-room
copy-requires-clause-room g c = room (view c.args.work.now (g.T.Texts.asked c.args.texts.now)) c.plain_len-plain.result c.ahead.result.now c.requires.fits c.ahead.ensures c.plain_len-plain.ensures.within

pub returns-then-plain-gt0-clause-step : goal.returns-then-plain-gt0-clause-step
returns-then-plain-gt0-clause-step g c =
    let asked = g.T.Texts.asked c.args.texts.now in
    let s = view c.args.work.now asked in
    asks_nothing _ _ _ (λ told. text_plain told c.ahead.result.now (ahead c.args.work.now.rest) s c.plain_len-plain.result c.plain_len-plain.ensures.passed c.ahead.ensures c.if-plain-gt0.true ∙ ap Goes (sym (c.in_ok-copy.ensures asked)))

pub returns-clause-halted : goal.returns-clause-halted
returns-clause-halted g c =
    let s = view c.args.work.now (g.T.Texts.asked c.args.texts.now) in
    halts_as (g.T.Texts.tells c.args.texts.now) _ _ _ _ (λ told. step_text told (ahead c.args.work.now.rest) s) (λ told. step_backtick told (ahead c.args.work.now.rest) s)
    (λ told. text_backtick told c.ahead.result.now (ahead c.args.work.now.rest) s c.plain_len-plain.result c.plain_len-plain.ensures.passed c.ahead.ensures c.if-plain-gt0.false) c.step_backtick.ensures.halted
