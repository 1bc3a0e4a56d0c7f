use Rattle.std.proofs.Common.{length}
use Rattle.sve_memo.specs.Trees.{memos_of}
use Rattle.sve_memo.proofs.tree.Tree.+list.Given as goal

abbrev pub decreases-list : goal.decreases-list
decreases-list g l = length (memos_of l.self.now)
