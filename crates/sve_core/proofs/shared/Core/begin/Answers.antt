use Rattle.std.proofs.Common.{sym, ap, ◌∙◌}
use Rattle.sve_store.specs.Snapshots.{SnapshotValue}
use Rattle.sve_core.proofs.Going.{goes_equal}
use Rattle.sve_core.proofs.shared.Core.begin.Goals as goal

-- the store's history is the core's, which is that of the snapshot
pub lend-requires : goal.lend-requires
lend-requires g c = record { history = goes_equal c.self.inside.store.history c.of-snapshot.result.history (c.self.invariant ∙ sym (ap (λ (s : SnapshotValue). s.history) c.of-snapshot.ensures ∙ c.of.ensures)) }
