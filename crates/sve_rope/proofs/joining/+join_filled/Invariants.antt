use Rattle.std.proofs.Common.{◌+◌}
use Rattle.sve_rope.specs.Tree.{forks_in}
use Rattle.sve_rope.proofs.joining.+join_filled.Given as goal

abbrev pub decreases-join_filled : goal.decreases-join_filled
decreases-join_filled l = forks_in l.left.now + forks_in l.right.now
