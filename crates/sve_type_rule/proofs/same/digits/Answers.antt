use Rattle.std.proofs.Common.{refl, arith, ap, length}
use Rattle.sve_type_rule.proofs.same.digits.Goals as goal

pub unreachable-requires : goal.unreachable-requires
unreachable-requires c =
    let e = c.of.ensures.empty.0 (rw (c.in-Err-Empty.is, c.in-Err-Empty.field-0-is) refl) in
    omega (arith, e, ap length c.as_slice.ensures.value, c.in_ok-digits.ensures.range.0)

pub unreachable-requires-in-Err-TooLong : goal.unreachable-requires-in-Err-TooLong
unreachable-requires-in-Err-TooLong c =
    let e = (c.of.ensures.too_long c.in-Err-TooLong.field-0-0).0 (rw (c.in-Err-TooLong.is, c.in-Err-TooLong.field-0-is) refl) in
    omega (arith, e.0, e.1, ap length c.as_slice.ensures.value, c.in_ok-digits.ensures.range.1)
