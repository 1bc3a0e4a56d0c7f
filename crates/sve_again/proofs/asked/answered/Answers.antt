use Rattle.std.proofs.Common.{◌≡◌, ℕ, [], refl, sym, ap, ◌∙◌, subst}
use Rattle.std.proofs.Props.{props}
use mathlib.Core.Logic.{∥∥₁_elim}
use Rattle.std.specs.declared.cmp.Ordering.TheVariants.{Equal}
use Rattle.sve_history.specs.Histories.{HistoryValue, newest_files}
use Rattle.sve_store.specs.Made.{values_of}
use Rattle.sve_store.specs.Snapshots.{SnapshotValue}
use Rattle.sve_store.specs.Values.{IsTable}
use Rattle.sve_ask.specs.Sound.{Defined, AllSound}
use Rattle.sve_ask.specs.Gains.{AllVerified, IsSettled}
use Rattle.sve_ask.proofs.Watching.{ok_map}
use Rattle.sve_reader.proofs.Served.{ready_with}
use Rattle.sve_core.specs.Asks.{snapshot_of}
use Rattle.sve_again.proofs.Shared.{joined_up_to_date, up_to_date_if_computed, whole_history}
use Rattle.sve_again.proofs.asked.answered.Given as given
use Rattle.sve_again.proofs.asked.answered.Goals as goal

abbrev D : (g : given.Over) → Defined g.row.K-Key.Denot g.row.K-Value.Denot
D g = record { cmp = g.K.Key.Ord.cmp; given = g.K.Keyed.given; make = g.K.Kinds.make; ranked = g.K.Keyed.ranked; serves = g.K.Keyed.serves }

exact : (g : given.Over) (a b : g.row.K-Key.Denot) → (D g).cmp a b ≡ Equal → a ≡ b
exact g a b is = (g.met.K.Keyed.one_key a b).0 is

equal : (g : given.Over) (k : g.row.K-Key.Denot) → (D g).cmp k k ≡ Equal
equal g k = (g.met.K.Keyed.one_key k k).1 refl

pub publish-requires-clause-sound : goal.publish-requires-clause-sound
publish-requires-clause-sound g c =
    let history = c.args.core.now.history in
    let last = c.revision.ensures ∙ ap (λ (s : SnapshotValue). s.revision) (c.snapshot.ensures ∙ c.in-Ok.ensures.snapshot) in
    subst (λ (h : HistoryValue). ∥ AllSound (D g) h c.read_answer-answer.new.fresh.memos ∥₁) (ap (λ (s : SnapshotValue). s.history) c.in-Ok.ensures.snapshot ∙ sym (whole_history history c.revision.result last)) c.read_answer-answer.ensures.sound

pub returns-in-Ok-publish-clause-quiet : goal.returns-in-Ok-publish-clause-quiet
returns-in-Ok-publish-clause-quiet g c = λ table is all.
    let core = c.args.core.now in
    let here = snapshot_of core.history in
    let at_lent = subst (λ (s : SnapshotValue). IsTable (D g).cmp (values_of ((D g).given s.files)) (D g).make table) (sym c.in-Ok.ensures.snapshot) is in
    c.read_answer-answer.ensures.quiet table at_lent (λ k f asks. ready_with (D g) c.in-Ok.lent.snapshot here c.in-Ok.lent.memos core.memos c.new-fresh.result.memos [] c.in-Ok.ensures.snapshot c.in-Ok.ensures.memos c.new-fresh.ensures k f
    (up_to_date_if_computed (D g) (exact g) (equal g) core.history (newest_files core.history) core.memos k f g.K.Keyed.is_input c.stays_sound.ensures.sound (g.met.K.Keyed.inputs (newest_files core.history) k) (λ not. all k f not asks)))

pub returns-clause-quiet : goal.returns-clause-quiet
returns-clause-quiet g c = λ table is all.
    let core = c.args.core.now in
    let here = snapshot_of core.history in
    let at_lent = subst (λ (s : SnapshotValue). IsTable (D g).cmp (values_of ((D g).given s.files)) (D g).make table) (sym c.in-Ok.ensures.snapshot) is in
    c.read_answer-answer.ensures.quiet table at_lent (λ k f asks. ready_with (D g) c.in-Ok.lent.snapshot here c.in-Ok.lent.memos core.memos c.new-fresh.result.memos [] c.in-Ok.ensures.snapshot c.in-Ok.ensures.memos c.new-fresh.ensures k f
    (up_to_date_if_computed (D g) (exact g) (equal g) core.history (newest_files core.history) core.memos k f g.K.Keyed.is_input c.stays_sound.ensures.sound (g.met.K.Keyed.inputs (newest_files core.history) k) (λ not. all k f not asks)))

pub returns-in-Ok-publish-clause-done : goal.returns-in-Ok-publish-clause-done
returns-in-Ok-publish-clause-done g c = λ table is.
    let core = c.args.core.now in
    let here = snapshot_of core.history in
    let fresh = c.read_answer-answer.new.fresh.memos in
    let at_lent = subst (λ (s : SnapshotValue). IsTable (D g).cmp (values_of ((D g).given s.files)) (D g).make table) (sym c.in-Ok.ensures.snapshot) is in
    let settled : AllVerified c.in-Ok.lent.snapshot.revision fresh = ∥∥₁_elim {A = IsSettled (D g) c.in-Ok.lent.snapshot.files c.in-Ok.lent.snapshot.revision fresh} c.read_answer-answer.ensures.settled (hlevel props) (λ s. s.verified) in
    let verified = subst (λ (r : ℕ). AllVerified r fresh) (ap (λ (s : SnapshotValue). s.revision) c.in-Ok.ensures.snapshot) settled in
    ok_map c.read_answer-answer.result.0 _ _ (c.read_answer-answer.ensures.done table at_lent) (λ answer up done k f not asks.
    joined_up_to_date (D g) (exact g) (equal g) core.history (newest_files core.history) fresh core.memos c.publish.new.self.memos c.stays_sound.ensures.sound verified c.in-Ok-publish.ensures.joined k f
    (ready_with (D g) here c.in-Ok.lent.snapshot core.memos c.in-Ok.lent.memos fresh fresh (sym c.in-Ok.ensures.snapshot) (sym c.in-Ok.ensures.memos) refl k f (up done k f not asks)))
