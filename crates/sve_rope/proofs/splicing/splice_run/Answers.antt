use Rattle.std.proofs.Common.{rules, ◌≡◌, ◌+◌, ◌-◌, ◌++◌, ◌∙◌, ap, take, drop}
use Rattle.std.proofs.lemmas.Result.{IfOk-weaker}
use Rattle.sve_rope.specs.Tree.{bytes_in}
use Rattle.sve_rope.proofs.Splices.{splice_near}
use Rattle.sve_rope.proofs.splicing.splice_run.Goals as goal

pub returns-clause-bytes : goal.returns-clause-bytes
returns-clause-bytes c =
    let at = c.args.at in
    let end = at + c.args.cut in
    let new = bytes_in c.args.new.now in
    let old = c.args.old.now in
    let from = c.near_before-from.result in
    let to = c.near_behind-to.result in
    let middle : bytes_in c.in_ok-middle.middle ≡ take (at - from) (drop from old) ++ new ++ take (to - end) (drop end old) = search rules in
    IfOk-weaker c.enclose-2.result _ _
    (λ tree is. is ∙ ap (λ middle. take from old ++ middle ++ drop to old) middle ∙ splice_near old new from at end to c.near_before-from.ensures c.near_behind-to.ensures.order)
    c.enclose-2.ensures.bytes
