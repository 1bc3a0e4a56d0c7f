use Rattle.std.proofs.Common.{ℕ, ap, sym, ◌∙◌, subst}
use Rattle.sve_text.specs.declared.edit.Mode.{Mode}
use Rattle.sve_store.specs.Snapshots.{SnapshotValue}
use Rattle.sve_ask.specs.Sound.{Defined, AllSound}
use Rattle.sve_ask.specs.Gains.{IsSettled}
use Rattle.sve_session.specs.Asks.{IsOutcome}
use Rattle.sve_command.specs.declared.commands.Command.TheVariants.{Ask}
use Rattle.sve_runner.specs.Honest.{budget_under, mode_under}
use Rattle.sve_runner.specs.Told.{answers_by, outcome_record, IsTold}
use Rattle.sve_runner.proofs.Steps.{ask_told}
use Rattle.sve_runner.proofs.commands.run_ask.Given as given
use Rattle.sve_runner.proofs.commands.run_ask.Goals as goal

abbrev D : (g : given.Over) → Defined g.row.K-Key.Denot g.row.K-Value.Denot
D g = record { cmp = g.K.Key.Ord.cmp; given = g.K.Keyed.given; make = g.K.Kinds.make; ranked = g.K.Keyed.ranked; serves = g.K.Keyed.serves }

-- an ask begins with no fresh memo
pub work-requires-clause-sound : goal.work-requires-clause-sound
work-requires-clause-sound g c =
    let snapshot = c.in_ok-lent.lent.snapshot in
    subst (λ memos. ∥ AllSound (D g) snapshot.history memos ∥₁) (sym c.new-fresh.ensures) (c.an_ask_may_begin.ensures.sound snapshot.history)

pub work-requires-clause-settled : goal.work-requires-clause-settled
work-requires-clause-settled g c =
    let snapshot = c.in_ok-lent.lent.snapshot in
    subst (λ memos. ∥ IsSettled (D g) snapshot.files snapshot.revision memos ∥₁) (sym c.new-fresh.ensures) (c.an_ask_may_begin.ensures.settled snapshot.files snapshot.revision)

pub returns-clause-told : goal.returns-clause-told
returns-clause-told g c =
    let answers = answers_by g.K.Key.Ord.cmp g.K.Keyed.given g.K.Kinds.make g.K.Kinds.answers_over in
    let terms = c.args.terms in
    let opening = g.P.Plan.opening in
    let table = g.P.Plan.table in
    let before = c.args.pass.now in
    let begun = c.begin.new.pass in
    let looked = c.work.new.pass in
    let after = c.finish.new.pass in
    let snapshot = c.in_ok-lent.lent.snapshot in
    let told = c.in_ok-outcome.outcome in
    let Is : ℕ → Mode → Type 0 = λ n m. IsOutcome (answers snapshot.files c.args.query.now n) snapshot.revision n m begun looked told in
    let here : Is (budget_under terms c.args.budget) (mode_under terms c.args.mode)
    = subst (λ (n : ℕ). Is n (mode_under terms c.args.mode)) c.budget_of.ensures (subst (λ (m : Mode). Is c.budget_of.result m) c.mode_of.ensures c.in_ok-outcome.ensures.outcome) in
    let one = ask_told answers terms opening table c.args.number c.args.query.now c.args.mode c.args.budget before begun looked after snapshot c.in_ok-lent.ensures.later c.in_ok-lent.ensures.begun c.in_ok-outcome.ensures.looked
    c.in_ok-finish.ensures.later c.in_ok-finish.ensures.mine told here in
    subst (IsTold answers terms opening table before.number c.args.number (Ask c.args.query.now c.args.mode c.args.budget) before after) (sym (c.outcome_record.ensures ∙ ap (λ (r : ℕ). outcome_record r told) (c.revision-revision.ensures ∙ ap (λ (s : SnapshotValue). s.revision) c.snapshot.ensures))) one
