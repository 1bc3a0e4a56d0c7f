use Rattle.sve_find.proofs.finding.+follow.Given as goal

abbrev pub decreases-follow : goal.decreases-follow
decreases-follow g l = l.levels
