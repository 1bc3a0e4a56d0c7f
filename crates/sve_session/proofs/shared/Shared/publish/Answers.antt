use Rattle.std.proofs.Common.{sym, subst}
use Rattle.sve_history.specs.Histories.{HistoryValue}
use Rattle.sve_ask.specs.Sound.{Defined, AllSound}
use Rattle.sve_session.proofs.Tells.{base_history}
use Rattle.sve_session.proofs.shared.Shared.publish.Given as given
use Rattle.sve_session.proofs.shared.Shared.publish.Goals as goal

abbrev D : (g : given.Over) → Defined g.row.K-Key.Denot g.row.K-Value.Denot
D g = record { cmp = g.K.Key.Ord.cmp; given = g.K.Keyed.given; make = g.K.Kinds.make; ranked = g.K.Keyed.ranked; serves = g.K.Keyed.serves }

pub publish-requires-clause-sound : goal.publish-requires-clause-sound
publish-requires-clause-sound g c =
    let shared = c.args.self.now in
    let base = base_history c.args.pass.now c.meet_log.new.pass shared.writer.log c.meet_log.ensures.met g.P.Plan.opening g.P.Plan.table shared.core.history shared.of_log c.args.base c.requires.seen in
    subst (λ (h : HistoryValue). ∥ AllSound (D g) h c.args.fresh.memos ∥₁) (sym base) c.requires.sound
