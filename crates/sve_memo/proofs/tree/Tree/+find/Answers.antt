use Rattle.std.proofs.Common.{rules, ◌≡◌, ◌∷◌, ◌++◌, sym, ap, ◌∙◌, subst, arith, length}
use Rattle.std.specs.declared.cmp.Ordering.TheVariants.{Less, Equal, Greater}
use Rattle.sve_memo.specs.Memos.{memo_in, IsInOrder}
use Rattle.sve_memo.specs.Trees.{memos_of}
use Rattle.sve_memo.proofs.Order.{found_left, found_middle, found_right, in_order-front, in_order-back, left_shorter, right_shorter}
use Rattle.sve_memo.proofs.tree.Tree.+find.Goals as goal

pub find-requires : goal.find-requires
find-requires g t c κs within =
    let b = c.deref-branch.result.now in
    let is : memos_of c.args.self.now ≡ memos_of b.left ++ b.memo ∷ memos_of b.right = search rules in
    let short = left_shorter (memos_of b.left) b.memo (memos_of b.right) in
    let whole = ap length is in
    (omega (arith, short, whole), (within.0, (within.1, in_order-front g.Q.Ord.cmp g.met.Q.Ord.total (memos_of b.left) (b.memo ∷ memos_of b.right) (subst (IsInOrder g.Q.Ord.cmp) is c.requires))))

pub find-requires-in-Greater : goal.find-requires-in-Greater
find-requires-in-Greater g t c κs within =
    let b = c.deref-branch.result.now in
    let is : memos_of c.args.self.now ≡ memos_of b.left ++ b.memo ∷ memos_of b.right = search rules in
    let short = right_shorter (memos_of b.left) b.memo (memos_of b.right) in
    let whole = ap length is in
    (omega (arith, short, whole), (within.0, (within.1, in_order-back g.Q.Ord.cmp g.met.Q.Ord.total (memos_of b.left) b.memo (memos_of b.right) (subst (IsInOrder g.Q.Ord.cmp) is c.requires))))

pub returns-in-Less : goal.returns-in-Less
returns-in-Less g t c =
    let b = c.deref-branch.result.now in
    let is : memos_of c.args.self.now ≡ memos_of b.left ++ b.memo ∷ memos_of b.right = search rules in
    let at : g.Q.Ord.cmp c.args.key.now b.memo.finding.key ≡ Less = search rules in
    c.find.ensures ∙ sym (found_left g.Q.Ord.cmp g.met.Q.Ord.total c.args.key.now (memos_of b.left) b.memo (memos_of b.right) at (subst (IsInOrder g.Q.Ord.cmp) is c.requires)) ∙ ap (λ l. memo_in g.Q.Ord.cmp l c.args.key.now) (sym is)

pub returns-in-Equal : goal.returns-in-Equal
returns-in-Equal g t c =
    let b = c.deref-branch.result.now in
    let is : memos_of c.args.self.now ≡ memos_of b.left ++ b.memo ∷ memos_of b.right = search rules in
    let at : g.Q.Ord.cmp c.args.key.now b.memo.finding.key ≡ Equal = search rules in
    sym (found_middle g.Q.Ord.cmp g.met.Q.Ord.total c.args.key.now (memos_of b.left) b.memo (memos_of b.right) at (subst (IsInOrder g.Q.Ord.cmp) is c.requires)) ∙ ap (λ l. memo_in g.Q.Ord.cmp l c.args.key.now) (sym is)

pub returns-in-Greater : goal.returns-in-Greater
returns-in-Greater g t c =
    let b = c.deref-branch.result.now in
    let is : memos_of c.args.self.now ≡ memos_of b.left ++ b.memo ∷ memos_of b.right = search rules in
    let at : g.Q.Ord.cmp c.args.key.now b.memo.finding.key ≡ Greater = search rules in
    c.find-in-Greater.ensures ∙ sym (found_right g.Q.Ord.cmp g.met.Q.Ord.total c.args.key.now (memos_of b.left) b.memo (memos_of b.right) at (subst (IsInOrder g.Q.Ord.cmp) is c.requires)) ∙ ap (λ l. memo_in g.Q.Ord.cmp l c.args.key.now) (sym is)
