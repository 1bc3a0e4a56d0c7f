use Rattle.std.proofs.Common.{subst}
use Rattle.sve_store.specs.Made.{values_of}
use Rattle.sve_store.specs.Values.{IsAnswer}
use Rattle.sve_seat.specs.Seats.{IsWorld}
use Rattle.sve_world.specs.Machine.{WorldValue}
use Rattle.sve_world.proofs.world.World.stays_honest.Goals as goal

pub returns : goal.returns
returns g c =
    subst (λ (w : WorldValue g.row.K-Query.Denot g.row.K-Key.Denot g.row.K-Value.Denot). IsWorld (λ files. IsAnswer g.K.Key.Ord.cmp (values_of (g.K.Keyed.given files)) g.K.Kinds.make g.K.Kinds.answers_over) w.history w.seats) c.self.view_is c.self.invariant
