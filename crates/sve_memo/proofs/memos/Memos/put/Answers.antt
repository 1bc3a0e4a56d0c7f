use Rattle.std.proofs.Common.{sym, subst}
use Rattle.sve_memo.specs.Memos.{IsInOrder}
use Rattle.sve_memo.specs.Trees.{memos_of}
use Rattle.sve_memo.proofs.Order.{put_in_order}
use Rattle.sve_memo.proofs.memos.Memos.put.Goals as goal

pub invariant_of-self : goal.invariant_of-self
invariant_of-self g c = subst (IsInOrder g.Q.Ord.cmp) (sym c.in_ok-tree.ensures) (put_in_order g.Q.Ord.cmp g.met.Q.Ord.total c.args.memo (memos_of c.self.inside.tree) c.self.invariant)
