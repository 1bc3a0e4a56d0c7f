use Rattle.std.proofs.Common.{Err, ap, ◌∙◌, arith}
use Rattle.sve_toy.proofs.kinds.name_a.Goals as goal

pub unreachable-requires-in-Err-TooLong : goal.unreachable-requires-in-Err-TooLong
unreachable-requires-in-Err-TooLong c =
    let long = (c.of.ensures.too_long c.in-Err-TooLong.field-0-0).0 (c.in-Err-TooLong.is ∙ ap Err c.in-Err-TooLong.field-0-is) in
    omega (arith, long.0, long.1)
