use Rattle.sve_seat.proofs.Worlds.{opens_as}
use Rattle.sve_world.proofs.world.World.open.Goals as goal

pub invariant_of-result : goal.invariant_of-result
invariant_of-result g c = opens_as _ c.args.files c.in_ok-core.core _ _ c.requires.opening c.in_ok-core.ensures c.seats.invariant.new
