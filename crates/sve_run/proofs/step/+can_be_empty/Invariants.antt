use Rattle.sve_run.specs.Meaning.{meaning}
use Rattle.sve_run.proofs.Sizes.{size}
use Rattle.sve_run.proofs.step.+can_be_empty.Given as goal

abbrev pub decreases-can_be_empty : goal.decreases-can_be_empty
decreases-can_be_empty l = size (meaning l.part)
