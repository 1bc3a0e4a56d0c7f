-- The last of those in front, or none.
use Rattle.std.proofs.Common.{arith}
use Rattle.sve_design_kinds.proofs.InFront.{last_in_front, none_in_front}
use Rattle.sve_design_kinds.proofs.beginnings.last_in_front.Goals as goal

pub returns-then-count-eq0 : goal.returns-then-count-eq0
returns-then-count-eq0 c =
    let none = c.if-count-eq0.true in
    none_in_front c.args.in_order.now c.args.token (λ k d within. c.count_in_front-count.ensures.parts.1 k d (omega arith) within)

pub returns : goal.returns
returns c =
    let some = c.if-count-eq0.false in
    last_in_front c.args.in_order.now c.args.token c.count_in_front-count.result (omega arith) c.count_in_front-count.ensures.bound c.requires c.count_in_front-count.ensures.parts 0
