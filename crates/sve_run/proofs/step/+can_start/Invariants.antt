use Rattle.sve_run.specs.Meaning.{meaning}
use Rattle.sve_run.proofs.Sizes.{size}
use Rattle.sve_run.proofs.step.+can_start.Given as goal

abbrev pub decreases-can_start : goal.decreases-can_start
decreases-can_start l = size (meaning l.part)
