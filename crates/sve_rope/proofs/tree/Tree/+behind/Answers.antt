use Rattle.std.proofs.Common.{rules, ◌≡◌, ◌-◌, ◌++◌, ◌∙◌, ap, sym, drop, arith}
use Rattle.std.proofs.lemmas.Result.{IfOk-weaker}
use Rattle.sve_rope.specs.Tree.{bytes_in}
use Rattle.sve_rope.proofs.Splices.{drop_beyond}
use Rattle.sve_rope.proofs.tree.Tree.+behind.Goals as goal

pub returns-else-n-left-clause-bytes : goal.returns-else-n-left-clause-bytes
returns-else-n-left-clause-bytes t c =
    let a = bytes_in c.deref-branch.result.now.left in
    let b = bytes_in c.deref-branch.result.now.right in
    let whole : bytes_in c.args.self.now ≡ a ++ b = search rules in
    IfOk-weaker c.behind-else-n-left.result _ _
    (λ tree is. is ∙ ap (λ left. drop (c.args.n - left) b) c.len-left.ensures.len ∙ sym (drop_beyond c.args.n a b (omega arith)) ∙ ap (drop c.args.n) (sym whole))
    c.behind-else-n-left.ensures.bytes
