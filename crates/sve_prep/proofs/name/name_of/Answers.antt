use Rattle.std.proofs.Common.{◌≡◌, ◌<◌, length, refl, arith}
use Rattle.sve_prep.proofs.name.name_of.Goals as goal

pub unreachable-requires-in-Err-TooLong : goal.unreachable-requires-in-Err-TooLong
unreachable-requires-in-Err-TooLong c =
    let here = c.in-Err-TooLong in
    let when_long = rw here.field-0-is at here.ensures.too_long here.field-0-0 in
    let long : (here.field-0-0 ≡ length c.args.bytes.now) × (1024 < here.field-0-0) = when_long.0 refl in
    omega (arith, c.requires.short)
