use Rattle.std.proofs.Common.{length}
use Rattle.sve_hier.proofs.hierarchy.Hierarchy.+down.Given as goal

abbrev pub decreases-down : goal.decreases-down
decreases-down l = length l.steps.now
