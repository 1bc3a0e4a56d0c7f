use Rattle.std.proofs.Common.{refl}
use Rattle.sve_world.proofs.Moves.{always_err, kept_world, kept_as, has_cancelled}
use Rattle.sve_world.proofs.world.World.cancel.Goals as goal

pub invariant_of-self : goal.invariant_of-self
invariant_of-self g c = kept_world c.self.inside.core c.self.inside.seats.items c.args.client c.index_mut-seat.result.now c.index_mut-seat.ensures.value _ c.self.inside.core c.make_room.new.self refl c.make_room.ensures.same c.self.invariant

pub returns-in_err-make_room-clause-unchanged : goal.returns-in_err-make_room-clause-unchanged
returns-in_err-make_room-clause-unchanged g c = always_err _ (kept_as c.self.inside.core c.self.inside.seats.items c.args.client c.index_mut-seat.result.now c.index_mut-seat.ensures.value c.args.self.now c.self.inside.core c.make_room.new.self refl c.make_room.ensures.same c.self.view_is)

pub invariant_of-self-2 : goal.invariant_of-self-2
invariant_of-self-2 g c =
    (has_cancelled _ c.self.inside.core c.self.inside.seats.items c.args.client c.index_mut-seat.result.now c.index_mut-seat.ensures.value c.args.self.now c.args.command c.args.query c.args.budget c.args.mode c.args.newer c.in-Some.open c.make_room.new.self c.hear_answer.new.self c.revision-base.result
    c.self.view_is c.self.invariant c.requires.may c.in-Some.is c.revision-base.ensures c.make_room.ensures.same c.hear_answer.ensures).1

pub returns-clause-after : goal.returns-clause-after
returns-clause-after g c =
    (has_cancelled _ c.self.inside.core c.self.inside.seats.items c.args.client c.index_mut-seat.result.now c.index_mut-seat.ensures.value c.args.self.now c.args.command c.args.query c.args.budget c.args.mode c.args.newer c.in-Some.open c.make_room.new.self c.hear_answer.new.self c.revision-base.result
    c.self.view_is c.self.invariant c.requires.may c.in-Some.is c.revision-base.ensures c.make_room.ensures.same c.hear_answer.ensures).0
