use Rattle.sve_rope.specs.Tree.{forks_in}
use Rattle.sve_rope.proofs.tree.Tree.+run.Given as goal

abbrev pub decreases-run : goal.decreases-run
decreases-run l = forks_in l.self.now
