use Rattle.sve_seat.specs.Seats.{seat_value}
use Rattle.sve_allowed.proofs.MayCome.{may_publish_where}
use Rattle.sve_allowed.proofs.allowed.may_publish.Goals as goal

pub returns-in-Some : goal.returns-in-Some
returns-in-Some g c = may_publish_where c.args.world.now c.args.client (seat_value c.in-Some.seat.now) c.in-Some.ensures c.is_some.result c.is_some.ensures
