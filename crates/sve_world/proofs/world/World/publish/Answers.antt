use Rattle.std.proofs.Common.{arith, subst}
use Rattle.sve_ask.specs.Sound.{Defined}
use Rattle.sve_kept.specs.Kept.{AreJoined}
use Rattle.sve_world.specs.Machine.{WorldValue}
use Rattle.sve_world.proofs.Moves.{has_published, revision_made, brought}
use Rattle.sve_world.proofs.world.World.publish.Given as given
use Rattle.sve_world.proofs.world.World.publish.Goals as goal

abbrev D : (g : given.Over) → Defined g.row.K-Key.Denot g.row.K-Value.Denot
D g = record { cmp = g.K.Key.Ord.cmp; given = g.K.Keyed.given; make = g.K.Kinds.make; ranked = g.K.Keyed.ranked; serves = g.K.Keyed.serves }

pub publish-requires : goal.publish-requires
publish-requires g c =
    let within = revision_made _ c.self.inside.core c.self.inside.seats.items c.args.client c.index_mut-seat.result.now c.index_mut-seat.ensures.value c.args.self.now c.in-Some.open c.self.view_is c.self.invariant c.requires.may c.in-Some.is in
    record {
      made = omega (arith, within, c.revision-base.ensures);
      sound = brought _ c.self.inside.core c.self.inside.seats.items c.args.client c.index_mut-seat.result.now c.index_mut-seat.ensures.value (D g) c.args.self.now c.in-Some.open c.revision-base.result c.args.fresh.memos c.self.view_is c.self.invariant c.requires.may c.in-Some.is c.revision-base.ensures c.requires.sound;
    }

pub invariant_of-self-2 : goal.invariant_of-self-2
invariant_of-self-2 g c =
    (has_published _ c.self.inside.core c.self.inside.seats.items c.args.client c.index_mut-seat.result.now c.index_mut-seat.ensures.value c.args.self.now c.publish.new.self c.finish.new.self c.self.view_is c.self.invariant c.requires.may c.publish.ensures.history c.finish.ensures).stays

pub returns-clause-after : goal.returns-clause-after
returns-clause-after g c = record {
  after_is = (has_published _ c.self.inside.core c.self.inside.seats.items c.args.client c.index_mut-seat.result.now c.index_mut-seat.ensures.value c.args.self.now c.publish.new.self c.finish.new.self c.self.view_is c.self.invariant c.requires.may c.publish.ensures.history c.finish.ensures).after;
  joined = subst (λ (w : WorldValue g.row.K-Query.Denot g.row.K-Key.Denot g.row.K-Value.Denot). AreJoined g.K.Key.Ord.cmp c.args.fresh.memos w.memos c.publish.new.self.memos) c.self.view_is c.in_ok-publish.ensures.joined;
  order = c.stays_sound.ensures.order;
}
