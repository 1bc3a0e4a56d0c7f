use Rattle.std.proofs.Common.{subst}
use Rattle.sve_store.specs.Snapshots.{SnapshotValue, IsRevision}
use Rattle.sve_store.proofs.snapshot.Snapshot.stays_made.Goals as goal

pub returns : goal.returns
returns g c = subst (λ (s : SnapshotValue). IsRevision s.files s.revision s.history) c.self.view_is c.self.invariant
