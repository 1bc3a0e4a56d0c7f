use Rattle.sve_hier.proofs.hierarchy.Hierarchy.+found.Given as goal

abbrev pub decreases-found : goal.decreases-found
decreases-found l = l.count
