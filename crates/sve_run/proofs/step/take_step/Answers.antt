use Rattle.std.proofs.Common.{refl}
use Rattle.sve_run.proofs.step.take_step.Goals as goal

pub returns-in-Then : goal.returns-in-Then
returns-in-Then c = λ rest ms. (ms, rw (← c.in-Then.ensures.meaning, c.of.ensures.part, c.of.ensures.depth, c.of-in-Then.ensures.part, c.of-in-Then.ensures.depth) refl)

pub returns-in-Nothing : goal.returns-in-Nothing
returns-in-Nothing c = λ rest ms. (ms, rw (← c.in-Nothing.ensures.meaning) refl)
