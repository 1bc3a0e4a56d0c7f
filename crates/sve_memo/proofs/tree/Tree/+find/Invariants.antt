use Rattle.std.proofs.Common.{length}
use Rattle.sve_memo.specs.Trees.{memos_of}
use Rattle.sve_memo.proofs.tree.Tree.+find.Given as goal

abbrev pub decreases-find : goal.decreases-find
decreases-find g l = length (memos_of l.self.now)
