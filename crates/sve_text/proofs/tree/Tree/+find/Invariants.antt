use Rattle.std.proofs.Common.{length}
use Rattle.sve_text.specs.Tree.{rows_in}
use Rattle.sve_text.proofs.tree.Tree.+find.Given as goal

abbrev pub decreases-find : goal.decreases-find
decreases-find l = length (rows_in l.self.now)
