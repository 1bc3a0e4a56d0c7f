use Rattle.std.proofs.Common.{◌≡◌, ℕ, take, ap, sym, ◌∙◌, subst, arith}
use Rattle.sve_history.specs.Histories.{HistoryValue}
use Rattle.sve_store.specs.Snapshots.{SnapshotValue}
use Rattle.sve_ask.specs.Sound.{Defined, AllSound}
use Rattle.sve_session.specs.Shared.{history_of}
use Rattle.sve_session.proofs.session.Session.finish.Given as given
use Rattle.sve_session.proofs.session.Session.finish.Goals as goal

abbrev D : (g : given.Over) → Defined g.row.K-Key.Denot g.row.K-Value.Denot
D g = record { cmp = g.K.Key.Ord.cmp; given = g.K.Keyed.given; make = g.K.Kinds.make; ranked = g.K.Keyed.ranked; serves = g.K.Keyed.serves }

pub publish-requires-clause-seen : goal.publish-requires-clause-seen
publish-requires-clause-seen g c =
    let base : c.revision-base.result ≡ c.args.lent.snapshot.revision = c.revision-base.ensures ∙ ap (λ (s : SnapshotValue). s.revision) c.snapshot.ensures in
    omega (arith, base, c.requires.seen.within)

pub publish-requires-clause-sound : goal.publish-requires-clause-sound
publish-requires-clause-sound g c =
    let base : c.revision-base.result ≡ c.args.lent.snapshot.revision = c.revision-base.ensures ∙ ap (λ (s : SnapshotValue). s.revision) c.snapshot.ensures in
    let here = c.requires.seen.shows ∙ ap (λ (r : ℕ). history_of g.P.Plan.opening g.P.Plan.table (take r c.args.pass.now.seen)) (sym base) in
    subst (λ (h : HistoryValue). ∥ AllSound (D g) h c.args.fresh.memos ∥₁) here c.requires.sound
