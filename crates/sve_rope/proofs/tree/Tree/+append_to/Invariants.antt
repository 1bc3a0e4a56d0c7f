use Rattle.sve_rope.specs.Tree.{forks_in}
use Rattle.sve_rope.proofs.tree.Tree.+append_to.Given as goal

abbrev pub decreases-append_to : goal.decreases-append_to
decreases-append_to l = forks_in l.self.now
