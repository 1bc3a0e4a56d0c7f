use Rattle.std.proofs.Common.{ap, arith, length}
use Rattle.sve_session.proofs.Meets.{entries_of-few}
use Rattle.sve_session.proofs.shared.add_entry.Goals as goal

pub raise-announced-requires-clause-room : goal.raise-announced-requires-clause-room
raise-announced-requires-clause-room g c = omega (arith, c.requires.even, ap length c.requires.met.1, entries_of-few c.args.pass.now.number c.args.writer.now.log, c.requires.room)
