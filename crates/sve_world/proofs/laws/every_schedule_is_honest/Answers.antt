use Rattle.std.proofs.Common.{refl}
use Rattle.sve_store.specs.Made.{values_of}
use Rattle.sve_store.specs.Values.{IsAnswer}
use Rattle.sve_ask.specs.Sound.{Defined}
use Rattle.sve_world.proofs.Sounds.{schedules_hold}
use Rattle.sve_world.proofs.laws.every_schedule_is_honest.Given as given
use Rattle.sve_world.proofs.laws.every_schedule_is_honest.Goals as goal

abbrev D : (g : given.Over) → Defined g.row.K-Key.Denot g.row.K-Value.Denot
D g = record { cmp = g.K.Key.Ord.cmp; given = g.K.Keyed.given; make = g.K.Kinds.make; ranked = g.K.Keyed.ranked; serves = g.K.Keyed.serves }

pub returns : goal.returns
returns g c = λ opening clients memos_of events after untouched schedule.
    schedules_hold (D g) memos_of (λ files. IsAnswer g.K.Key.Ord.cmp (values_of (g.K.Keyed.given files)) g.K.Kinds.make g.K.Kinds.answers_over) (λ a b is. (g.met.K.Keyed.one_key a b).0 is) (λ k. (g.met.K.Keyed.one_key k k).1 refl)
    opening clients events after untouched schedule
