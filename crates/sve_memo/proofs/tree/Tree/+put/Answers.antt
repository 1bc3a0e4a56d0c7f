use Rattle.std.proofs.Common.{rules, ◌≡◌, ◌∷◌, ◌++◌, ap, subst, arith, length}
use Rattle.std.specs.declared.cmp.Ordering.TheVariants.{Less, Equal, Greater}
use Rattle.sve_memo.specs.Memos.{IsInOrder}
use Rattle.sve_memo.specs.Trees.{memos_of}
use Rattle.sve_memo.proofs.Order.{put_left, put_middle, put_right, in_order-front, in_order-back, left_shorter, right_shorter}
use Rattle.sve_memo.proofs.tree.Tree.+put.Goals as goal

pub put-requires : goal.put-requires
put-requires g t c κs within =
    let b = c.deref-branch.result.now in
    let is : memos_of c.args.self.now ≡ memos_of b.left ++ b.memo ∷ memos_of b.right = search rules in
    let short = left_shorter (memos_of b.left) b.memo (memos_of b.right) in
    let whole = ap length is in
    (omega (arith, short, whole), (within.0, (within.1, in_order-front g.Q.Ord.cmp g.met.Q.Ord.total (memos_of b.left) (b.memo ∷ memos_of b.right) (subst (IsInOrder g.Q.Ord.cmp) is c.requires))))

pub put-requires-in-Greater : goal.put-requires-in-Greater
put-requires-in-Greater g t c κs within =
    let b = c.deref-branch.result.now in
    let is : memos_of c.args.self.now ≡ memos_of b.left ++ b.memo ∷ memos_of b.right = search rules in
    let short = right_shorter (memos_of b.left) b.memo (memos_of b.right) in
    let whole = ap length is in
    (omega (arith, short, whole), (within.0, (within.1, in_order-back g.Q.Ord.cmp g.met.Q.Ord.total (memos_of b.left) b.memo (memos_of b.right) (subst (IsInOrder g.Q.Ord.cmp) is c.requires))))

pub returns-in_ok-left-in-Less : goal.returns-in_ok-left-in-Less
returns-in_ok-left-in-Less g t c =
    let b = c.deref-branch.result.now in
    let is : memos_of c.args.self.now ≡ memos_of b.left ++ b.memo ∷ memos_of b.right = search rules in
    let at : g.Q.Ord.cmp c.args.memo.finding.key b.memo.finding.key ≡ Less = search rules in
    let put = put_left g.Q.Ord.cmp g.met.Q.Ord.total c.args.memo (memos_of b.left) b.memo (memos_of b.right) at in
    search rules

pub returns-in-Equal : goal.returns-in-Equal
returns-in-Equal g t c =
    let b = c.deref-branch.result.now in
    let is : memos_of c.args.self.now ≡ memos_of b.left ++ b.memo ∷ memos_of b.right = search rules in
    let at : g.Q.Ord.cmp c.args.memo.finding.key b.memo.finding.key ≡ Equal = search rules in
    let put = put_middle g.Q.Ord.cmp g.met.Q.Ord.total c.args.memo (memos_of b.left) b.memo (memos_of b.right) at (subst (IsInOrder g.Q.Ord.cmp) is c.requires) in
    search rules

pub returns-in_ok-right-in-Greater : goal.returns-in_ok-right-in-Greater
returns-in_ok-right-in-Greater g t c =
    let b = c.deref-branch.result.now in
    let is : memos_of c.args.self.now ≡ memos_of b.left ++ b.memo ∷ memos_of b.right = search rules in
    let at : g.Q.Ord.cmp c.args.memo.finding.key b.memo.finding.key ≡ Greater = search rules in
    let put = put_right g.Q.Ord.cmp g.met.Q.Ord.total c.args.memo (memos_of b.left) b.memo (memos_of b.right) at (subst (IsInOrder g.Q.Ord.cmp) is c.requires) in
    search rules
