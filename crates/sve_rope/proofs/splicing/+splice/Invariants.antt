use Rattle.sve_rope.specs.Tree.{forks_in}
use Rattle.sve_rope.proofs.splicing.+splice.Given as goal

abbrev pub decreases-splice : goal.decreases-splice
decreases-splice l = forks_in l.old.now
