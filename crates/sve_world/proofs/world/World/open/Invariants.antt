use Rattle.std.proofs.Common.{◌≡◌, ◌≤◌, ◌-◌, length, map}
use Rattle.std.specs.Prelude.{replicate}
use Rattle.sve_seat.specs.Seats.{seat_value, new_seat}
use Rattle.sve_world.proofs.world.World.open.Given as goal

abbrev pub invariant-seats : goal.invariant-seats
invariant-seats g l = record {
  dealt : length l.seats.items ≤ l.clients;
  new : map seat_value l.seats.items ≡ replicate (length l.seats.items) new_seat;
}

abbrev pub decreases-seats : goal.decreases-seats
decreases-seats g l = l.clients - length l.seats.items
