use Rattle.std.proofs.Common.{length}
use Rattle.sve_text.specs.Tree.{rows_in}
use Rattle.sve_text.proofs.tree.Tree.+put.Given as goal

abbrev pub decreases-put : goal.decreases-put
decreases-put l = length (rows_in l.self.now)
