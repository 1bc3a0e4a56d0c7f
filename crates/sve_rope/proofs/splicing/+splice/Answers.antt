use Rattle.std.proofs.Common.{rules, ◌≡◌, ◌-◌, min, ◌++◌, ◌∙◌, ap, sym, length, drop, arith}
use Rattle.std.proofs.lemmas.Result.{IfOk-weaker}
use Rattle.sve_rope.specs.Splice.{spliced}
use Rattle.sve_rope.specs.Tree.{bytes_in}
use Rattle.sve_rope.proofs.Splices.{splice_front, splice_back}
use Rattle.sve_rope.proofs.splicing.+splice.Goals as goal

pub returns-then-at-left-clause-bytes : goal.returns-then-at-left-clause-bytes
returns-then-at-left-clause-bytes t c =
    let at = c.args.at in
    let cut = c.args.cut in
    let new = bytes_in c.args.new.now in
    let a = bytes_in c.deref-branch.result.now.left in
    let b = bytes_in c.deref-branch.result.now.right in
    let whole : bytes_in c.args.old.now ≡ a ++ b = search rules in
    let right : bytes_in c.in_ok-right-in-Fork.right ≡ spliced (at - length a) cut new b =
    c.in_ok-right-in-Fork.ensures.bytes ∙ ap (λ left. spliced (at - left) cut new b) c.len-left.ensures.len in
    let parts = ap (λ front. front ++ bytes_in c.in_ok-right-in-Fork.right) c.in_ok-share-in-Fork.ensures.bytes ∙ ap (λ back. a ++ back) right in
    IfOk-weaker c.join.result _ _
    (λ tree is. is ∙ parts ∙ splice_back a b new at cut (omega arith) ∙ ap (spliced at cut new) (sym whole))
    c.join.ensures.bytes

pub returns-in_ok-behind-in-Fork-clause-bytes : goal.returns-in_ok-behind-in-Fork-clause-bytes
returns-in_ok-behind-in-Fork-clause-bytes t c =
    let at = c.args.at in
    let cut = c.args.cut in
    let new = bytes_in c.args.new.now in
    let a = bytes_in c.deref-branch.result.now.left in
    let b = bytes_in c.deref-branch.result.now.right in
    let whole : bytes_in c.args.old.now ≡ a ++ b = search rules in
    let near : c.min-cut_left.result ≡ min cut (length a - at) = search rules in
    let front = c.in_ok-front-in-Fork.ensures.bytes ∙ ap (λ near. spliced at near new a) near in
    let behind = c.in_ok-behind-in-Fork.ensures.bytes ∙ ap (λ near. drop (cut - near) b) near in
    let parts = ap (λ front. front ++ bytes_in c.in_ok-behind-in-Fork.field-0) front ∙ ap (λ back. spliced at (min cut (length a - at)) new a ++ back) behind in
    IfOk-weaker c.join-in-Fork.result _ _
    (λ tree is. is ∙ parts ∙ splice_front a b new at cut (omega arith) ∙ ap (spliced at cut new) (sym whole))
    c.join-in-Fork.ensures.bytes
