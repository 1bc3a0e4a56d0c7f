use Rattle.std.proofs.Common.{sym, subst}
use Rattle.sve_text.specs.declared.edit.Mode.{Mode}
use Rattle.sve_store.specs.Made.{values_of}
use Rattle.sve_store.specs.Values.{IsAnswer}
use Rattle.sve_session.specs.Asks.{MayAnswer, IsOutcome}
use Rattle.sve_session.proofs.Tells.{told_answer, answered_done}
use Rattle.sve_session.proofs.work.outcome.Goals as goal

pub returns-in_ok-answer-in-Pinned-clause-outcome : goal.returns-in_ok-answer-in-Pinned-clause-outcome
returns-in_ok-answer-in-Pinned-clause-outcome g c =
    let answers = IsAnswer g.K.Key.Ord.cmp (values_of (g.K.Keyed.given c.args.lent.now.snapshot.files)) g.K.Kinds.make g.K.Kinds.answers_over c.args.query.now c.args.budget in
    let r = c.args.lent.now.snapshot.revision in
    let pass = c.args.pass.now in
    let may : MayAnswer c.args.mode r pass pass = subst (λ (m : Mode). MayAnswer m r pass pass) (sym c.in-Pinned.is) tt in
    subst (IsOutcome answers r c.args.budget c.args.mode pass pass) (sym c.of.ensures) (told_answer answers r c.args.budget c.args.mode pass pass c.in_ok-answer-in-Pinned.answer c.in_ok-answer-in-Pinned.ensures.answer may)

pub returns-in-Ok-clause-outcome : goal.returns-in-Ok-clause-outcome
returns-in-Ok-clause-outcome g c =
    let answers = IsAnswer g.K.Key.Ord.cmp (values_of (g.K.Keyed.given c.args.lent.now.snapshot.files)) g.K.Kinds.make g.K.Kinds.answers_over c.args.query.now c.args.budget in
    let r = c.args.lent.now.snapshot.revision in
    let before = c.args.pass.now in
    let after = c.latest_answer.new.pass in
    let may : MayAnswer c.args.mode r before after = subst (λ (m : Mode). MayAnswer m r before after) (sym c.in-Latest.is) c.in-Ok.ensures.looks in
    subst (IsOutcome answers r c.args.budget c.args.mode before after) (sym c.of-in-Ok.ensures) (told_answer answers r c.args.budget c.args.mode before after c.in-Ok.answer c.in-Ok.ensures.answer may)

pub returns-in_ok-answer-in-Pinned-clause-done : goal.returns-in_ok-answer-in-Pinned-clause-done
returns-in_ok-answer-in-Pinned-clause-done g c = λ table is answered k f not asks.
    c.in_ok-answer-in-Pinned.ensures.done table is (answered_done c.args.budget c.in_ok-answer-in-Pinned.answer c.of.result c.of.ensures answered) k f not asks

pub returns-in-Ok-clause-done : goal.returns-in-Ok-clause-done
returns-in-Ok-clause-done g c = λ table is answered k f not asks.
    c.in-Ok.ensures.done table is (answered_done c.args.budget c.in-Ok.answer c.of-in-Ok.result c.of-in-Ok.ensures answered) k f not asks
