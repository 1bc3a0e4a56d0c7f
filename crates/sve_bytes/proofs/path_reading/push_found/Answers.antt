use Rattle.std.proofs.Common.{arith, refl}
use Rattle.sve_bytes.proofs.path_reading.push_found.Goals as goal

-- the name has at most 1,024 bytes
pub unreachable-requires-in-Err-TooLong : goal.unreachable-requires-in-Err-TooLong
unreachable-requires-in-Err-TooLong c =
    let long = (c.of.ensures.too_long c.in-Err-TooLong.field-0-0).0 (rw (c.in-Err-TooLong.is, c.in-Err-TooLong.field-0-is) refl) in
    omega (arith, long.0, long.1, c.requires.in_limit)
