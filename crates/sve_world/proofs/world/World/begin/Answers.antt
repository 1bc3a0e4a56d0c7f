use Rattle.std.proofs.Common.{refl, ◌∙◌}
use Rattle.sve_seat.specs.Seats.{held_with}
use Rattle.sve_world.proofs.Moves.{always_err, kept_world, kept_as, begun}
use Rattle.sve_world.proofs.world.World.begin.Goals as goal

pub invariant_of-self : goal.invariant_of-self
invariant_of-self g c = kept_world c.self.inside.core c.self.inside.seats.items c.args.client c.index_mut-seat.result.now c.index_mut-seat.ensures.value _ c.self.inside.core c.index_mut-seat.result.now refl refl c.self.invariant

pub invariant_of-self-in_err-make_room : goal.invariant_of-self-in_err-make_room
invariant_of-self-in_err-make_room g c = kept_world c.self.inside.core c.self.inside.seats.items c.args.client c.index_mut-seat.result.now c.index_mut-seat.ensures.value _ c.self.inside.core c.make_room.new.self refl c.make_room.ensures.same c.self.invariant

pub returns-in_err-make_room-clause-unchanged : goal.returns-in_err-make_room-clause-unchanged
returns-in_err-make_room-clause-unchanged g c = always_err _ (kept_as c.self.inside.core c.self.inside.seats.items c.args.client c.index_mut-seat.result.now c.index_mut-seat.ensures.value c.args.self.now c.self.inside.core c.make_room.new.self refl c.make_room.ensures.same c.self.view_is)

pub invariant_of-self-2 : goal.invariant_of-self-2
invariant_of-self-2 g c =
    (begun _ c.self.inside.core c.self.inside.seats.items c.args.client c.index_mut-seat.result.now c.index_mut-seat.ensures.value c.args.self.now c.make_room.new.self c.hold.new.self c.of-held.result c.revision-r.result c.self.view_is c.self.invariant c.requires.may
    (c.of-held.ensures ∙ (λ k. held_with (c.in_ok-lent.ensures.snapshot k) (c.in_ok-lent.ensures.memos k))) c.revision-r.ensures c.make_room.ensures.same c.hold.ensures).stays

pub returns-clause-after : goal.returns-clause-after
returns-clause-after g c =
    (begun _ c.self.inside.core c.self.inside.seats.items c.args.client c.index_mut-seat.result.now c.index_mut-seat.ensures.value c.args.self.now c.make_room.new.self c.hold.new.self c.of-held.result c.revision-r.result c.self.view_is c.self.invariant c.requires.may
    (c.of-held.ensures ∙ (λ k. held_with (c.in_ok-lent.ensures.snapshot k) (c.in_ok-lent.ensures.memos k))) c.revision-r.ensures c.make_room.ensures.same c.hold.ensures).after
