use Rattle.std.proofs.Common.{arith}
use Rattle.sve_seat.specs.Seats.{seat_value}
use Rattle.sve_allowed.proofs.MayCome.{its_commands_rise, its_looks_began}
use Rattle.sve_allowed.proofs.allowed.may_ask.Goals as goal

pub is_next-requires : goal.is_next-requires
is_next-requires g c = record { rising = its_commands_rise c.args.world.now c.args.client (seat_value c.in-Some.seat.now) c.in-Some.ensures _ c.stays_honest.ensures }

pub has_seen-requires : goal.has_seen-requires
has_seen-requires g c =
    let began = its_looks_began c.args.world.now c.args.client (seat_value c.in-Some.seat.now) c.in-Some.ensures _ c.stays_honest.ensures c.in-Some-open.open c.in-Some-open.is in
    record { within = omega (arith, began, c.in-Some.seat.now.looks.ok.0) }
