-- The memos that a tree holds, in order.
use Rattle.std.specs.Prelude.{List, [], ◌∷◌, ◌++◌}
use Rattle.sve_memo.specs.Memos.{MemoValue}
use Rattle.sve_memo.specs.declared.tree.Tree.{Tree, Leaf, Fork'}

abbrev pub memos_of : {K V : Type 0} → Tree K V → List (MemoValue K V)
memos_of Leaf = []
memos_of (Fork' shared left memo right height) = memos_of left ++ memo ∷ memos_of right
