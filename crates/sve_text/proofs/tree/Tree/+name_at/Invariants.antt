use Rattle.std.proofs.Common.{length}
use Rattle.sve_text.specs.Tree.{rows_in}
use Rattle.sve_text.proofs.tree.Tree.+name_at.Given as goal

abbrev pub decreases-name_at : goal.decreases-name_at
decreases-name_at l = length (rows_in l.self.now)
