use Rattle.std.proofs.Common.{refl, subst}
use Rattle.sve_store.specs.Made.{values_of}
use Rattle.sve_store.specs.Values.{IsAnswer}
use Rattle.sve_store.specs.Snapshots.{SnapshotValue}
use Rattle.sve_world.proofs.Moves.{always_err, kept_world, kept_as, has_answered}
use Rattle.sve_world.proofs.world.World.ask.Goals as goal

pub invariant_of-self : goal.invariant_of-self
invariant_of-self g c = kept_world c.self.inside.core c.self.inside.seats.items c.args.client c.index_mut-seat.result.now c.index_mut-seat.ensures.value _ c.self.inside.core c.index_mut-seat.result.now refl refl c.self.invariant

pub invariant_of-self-in_err-make_room : goal.invariant_of-self-in_err-make_room
invariant_of-self-in_err-make_room g c = kept_world c.self.inside.core c.self.inside.seats.items c.args.client c.index_mut-seat.result.now c.index_mut-seat.ensures.value _ c.self.inside.core c.make_room.new.self refl c.make_room.ensures.same c.self.invariant

pub returns-in_err-make_room-clause-unchanged : goal.returns-in_err-make_room-clause-unchanged
returns-in_err-make_room-clause-unchanged g c = always_err _ (kept_as c.self.inside.core c.self.inside.seats.items c.args.client c.index_mut-seat.result.now c.index_mut-seat.ensures.value c.args.self.now c.self.inside.core c.make_room.new.self refl c.make_room.ensures.same c.self.view_is)

pub invariant_of-self-2 : goal.invariant_of-self-2
invariant_of-self-2 g c =
    (has_answered _ c.self.inside.core c.self.inside.seats.items c.args.client c.index_mut-seat.result.now c.index_mut-seat.ensures.value c.args.self.now c.args.command c.args.query c.args.budget c.args.mode c.in_ok-answer.answer c.of-outcome.result c.in-Some.open c.make_room.new.self c.hear_answer.new.self c.revision-revision.result
    c.self.view_is c.self.invariant c.requires.may c.in-Some.is
    (subst (λ (s : SnapshotValue). IsAnswer g.K.Key.Ord.cmp (values_of (g.K.Keyed.given s.files)) g.K.Kinds.make g.K.Kinds.answers_over c.args.query c.args.budget c.in_ok-answer.answer) c.snapshot.ensures c.in_ok-answer.ensures) c.of-outcome.ensures c.revision-revision.ensures c.make_room.ensures.same c.hear_answer.ensures).1

pub returns-clause-after : goal.returns-clause-after
returns-clause-after g c =
    (has_answered _ c.self.inside.core c.self.inside.seats.items c.args.client c.index_mut-seat.result.now c.index_mut-seat.ensures.value c.args.self.now c.args.command c.args.query c.args.budget c.args.mode c.in_ok-answer.answer c.of-outcome.result c.in-Some.open c.make_room.new.self c.hear_answer.new.self c.revision-revision.result
    c.self.view_is c.self.invariant c.requires.may c.in-Some.is
    (subst (λ (s : SnapshotValue). IsAnswer g.K.Key.Ord.cmp (values_of (g.K.Keyed.given s.files)) g.K.Kinds.make g.K.Kinds.answers_over c.args.query c.args.budget c.in_ok-answer.answer) c.snapshot.ensures c.in_ok-answer.ensures) c.of-outcome.ensures c.revision-revision.ensures c.make_room.ensures.same c.hear_answer.ensures).0
