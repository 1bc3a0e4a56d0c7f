use Rattle.std.proofs.Common.{length}
use Rattle.sve_memo.specs.Trees.{memos_of}
use Rattle.sve_memo.proofs.tree.Tree.+put.Given as goal

abbrev pub decreases-put : goal.decreases-put
decreases-put g l = length (memos_of l.self.now)
