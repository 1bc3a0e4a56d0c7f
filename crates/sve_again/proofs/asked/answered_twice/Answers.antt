use Rattle.std.proofs.Common.{◌≡◌, ℕ, false, [], Result, sym, subst}
use Rattle.std.specs.Prelude.{IfOk}
use Rattle.sve_io.specs.declared.halt.Halt.{Halt}
use Rattle.sve_history.specs.Histories.{HistoryValue, newest_files}
use Rattle.sve_store.specs.declared.answer.Answer.{Answer}
use Rattle.sve_store.specs.Made.{values_of}
use Rattle.sve_store.specs.Values.{IsTable, IsAnswer, IsDone}
use Rattle.sve_ask.specs.Sound.{Defined}
use Rattle.sve_reader.specs.UpToDate.{IsUpToDate}
use Rattle.sve_again.proofs.asked.answered_twice.Given as given
use Rattle.sve_again.proofs.asked.answered_twice.Goals as goal

abbrev D : (g : given.Over) → Defined g.row.K-Key.Denot g.row.K-Value.Denot
D g = record { cmp = g.K.Key.Ord.cmp; given = g.K.Keyed.given; make = g.K.Kinds.make; ranked = g.K.Keyed.ranked; serves = g.K.Keyed.serves }

pub asked_again-requires-clause-answer : goal.asked_again-requires-clause-answer
asked_again-requires-clause-answer g c =
    let told = subst (λ (r : Result Answer Halt). IfOk r (λ answer. IsAnswer (D g).cmp (values_of ((D g).given (newest_files c.args.core.now.history))) (D g).make g.K.Kinds.answers_over c.args.query.now c.args.budget answer)) c.in-Ok.is c.answered-first.ensures.answer in
    subst (λ (h : HistoryValue). IsAnswer (D g).cmp (values_of ((D g).given (newest_files h))) (D g).make g.K.Kinds.answers_over c.args.query.now c.args.budget c.in-Ok.first) (sym c.answered-first.ensures.history) told

pub asked_again-requires-clause-done : goal.asked_again-requires-clause-done
asked_again-requires-clause-done g c = λ table is done k f not asks.
    let here : HistoryValue = c.args.core.now.history in
    let same = c.answered-first.ensures.history in
    let memos = c.answered-first.new.core.memos in
    let at_first = subst (λ (h : HistoryValue). IsTable (D g).cmp (values_of ((D g).given (newest_files h))) (D g).make table) same is in
    let told = subst (λ (r : Result Answer Halt). IfOk r (λ answer. IsDone answer → (k : g.row.K-Key.Denot) (f : ℕ) → g.K.Keyed.is_input k ≡ false → g.K.Kinds.asks_over table c.args.query.now c.args.budget k f → IsUpToDate (D g) (newest_files here) [] memos k f)) c.in-Ok.is (c.answered-first.ensures.done table at_first) in
    subst (λ (h : HistoryValue). IsUpToDate (D g) (newest_files h) [] memos k f) (sym same) (told done k f not asks)

pub returns-in-Ok-clause-first : goal.returns-in-Ok-clause-first
returns-in-Ok-clause-first g c = subst (λ (h : HistoryValue). IfOk c.asked_again.result.0 (λ twice. IsAnswer (D g).cmp (values_of ((D g).given (newest_files h))) (D g).make g.K.Kinds.answers_over c.args.query.now c.args.budget twice.first)) c.answered-first.ensures.history c.asked_again.ensures.first

pub returns-in-Ok-clause-second : goal.returns-in-Ok-clause-second
returns-in-Ok-clause-second g c = subst (λ (h : HistoryValue). IfOk c.asked_again.result.0 (λ twice. IsAnswer (D g).cmp (values_of ((D g).given (newest_files h))) (D g).make g.K.Kinds.answers_over c.args.query.now c.args.budget twice.second)) c.answered-first.ensures.history c.asked_again.ensures.second
