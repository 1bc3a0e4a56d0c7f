use Rattle.sve_rope.specs.Tree.{forks_in}
use Rattle.sve_rope.proofs.tree.Tree.+behind.Given as goal

abbrev pub decreases-behind : goal.decreases-behind
decreases-behind l = forks_in l.self.now
