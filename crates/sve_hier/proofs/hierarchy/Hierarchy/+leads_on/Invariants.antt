use Rattle.std.proofs.Common.{length}
use Rattle.sve_hier.proofs.hierarchy.Hierarchy.+leads_on.Given as goal

abbrev pub decreases-leads_on : goal.decreases-leads_on
decreases-leads_on l = length l.steps.now
