use Rattle.sve_seat.proofs.Rising.{last_tells}
use Rattle.sve_seat.proofs.seat.Seat.is_next.Goals as goal

pub returns-in-Some : goal.returns-in-Some
returns-in-Some g c = last_tells c.deref.result.now c.args.self.now.told.items c.in-Some.told.now c.command.result c.args.command c.deref.ensures.value c.requires.rising c.in-Some.ensures.value c.command.ensures
