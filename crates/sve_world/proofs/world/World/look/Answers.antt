use Rattle.std.proofs.Common.{length, refl, ap, ◌∙◌}
use Rattle.sve_history.specs.Histories.{HistoryValue}
use Rattle.sve_world.proofs.Moves.{always_err, kept_world, kept_as, looked}
use Rattle.sve_world.proofs.world.World.look.Goals as goal

pub invariant_of-self : goal.invariant_of-self
invariant_of-self g c = kept_world c.self.inside.core c.self.inside.seats.items c.args.client c.index_mut-seat.result.now c.index_mut-seat.ensures.value _ c.self.inside.core c.make_room.new.self refl c.make_room.ensures.same c.self.invariant

pub returns-in_err-make_room-clause-unchanged : goal.returns-in_err-make_room-clause-unchanged
returns-in_err-make_room-clause-unchanged g c = always_err _ (kept_as c.self.inside.core c.self.inside.seats.items c.args.client c.index_mut-seat.result.now c.index_mut-seat.ensures.value c.args.self.now c.self.inside.core c.make_room.new.self refl c.make_room.ensures.same c.self.view_is)

pub invariant_of-self-2 : goal.invariant_of-self-2
invariant_of-self-2 g c =
    (looked _ c.self.inside.core c.self.inside.seats.items c.args.client c.index_mut-seat.result.now c.index_mut-seat.ensures.value c.args.self.now c.make_room.new.self c.look.new.self c.len-r.result c.self.view_is c.self.invariant c.requires.may
    (c.len-r.ensures ∙ ap (λ (h : HistoryValue). length h.entries) c.history.ensures) c.make_room.ensures.same c.look.ensures.value).stays

pub returns-clause-after : goal.returns-clause-after
returns-clause-after g c =
    (looked _ c.self.inside.core c.self.inside.seats.items c.args.client c.index_mut-seat.result.now c.index_mut-seat.ensures.value c.args.self.now c.make_room.new.self c.look.new.self c.len-r.result c.self.view_is c.self.invariant c.requires.may
    (c.len-r.ensures ∙ ap (λ (h : HistoryValue). length h.entries) c.history.ensures) c.make_room.ensures.same c.look.ensures.value).after
