use Rattle.std.proofs.Common.{refl, arith}
use Rattle.sve_unit.proofs.stop.word.Goals as goal

pub unreachable-requires-in-Err-TooLong : goal.unreachable-requires-in-Err-TooLong
unreachable-requires-in-Err-TooLong c =
    let e = (c.of.ensures.too_long c.in-Err-TooLong.field-0-0).0 (rw (c.in-Err-TooLong.is, c.in-Err-TooLong.field-0-is) refl) in
    omega (arith, e.0, e.1, c.requires.short)
