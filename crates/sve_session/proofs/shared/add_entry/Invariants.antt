use Rattle.std.proofs.Common.{◌≡◌}
use Rattle.sve_session.proofs.shared.add_entry.Given as goal

abbrev pub invariant-loop : goal.invariant-loop
invariant-loop g l = (l.writer.table ≡ l.initial.writer.table) × (l.writer.log ≡ l.initial.writer.log)
