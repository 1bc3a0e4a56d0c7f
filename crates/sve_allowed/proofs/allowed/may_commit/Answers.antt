use Rattle.sve_seat.specs.Seats.{seat_value}
use Rattle.sve_allowed.proofs.MayCome.{its_commands_rise}
use Rattle.sve_allowed.proofs.allowed.may_commit.Goals as goal

pub is_next-requires : goal.is_next-requires
is_next-requires g c = record { rising = its_commands_rise c.args.world.now c.args.client (seat_value c.in-Some.seat.now) c.in-Some.ensures _ c.stays_honest.ensures }
