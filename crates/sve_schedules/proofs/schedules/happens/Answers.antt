use Rattle.sve_world.proofs.Sounds.{nothing_sound}
use Rattle.sve_schedules.proofs.schedules.happens.Goals as goal

pub step-requires-clause-sound : goal.step-requires-clause-sound
step-requires-clause-sound c = nothing_sound _ _ c.args.world.now c.bringing_nothing-event.result c.bringing_nothing-event.ensures
