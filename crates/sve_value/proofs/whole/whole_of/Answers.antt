use Rattle.std.proofs.Common.{sym, ◌<◌, arith}
use Rattle.sve_value.proofs.Integers.{negative_positive}
use Rattle.sve_value.proofs.whole.whole_of.Goals as goal

pub overflow_add-result : goal.overflow_add-result
overflow_add-result c =
    let h : 0 < c.in_ok-natural.natural = negative_positive c.args.a _ c.in_ok-natural.ensures.natural (sym c.if-is_negative.ensures) in
    omega (arith, h, c.mask.ensures, c.mask.type_inv)
