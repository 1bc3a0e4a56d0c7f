use Rattle.std.proofs.Common.{◌≡◌, ◌≤◌, ◌<◌, length, refl, sym, arith}
use Rattle.sve_text.proofs.ShortNames.{length-file_name}
use Rattle.sve_text.proofs.naming.file_name.Goals as goal

-- the name of a file is shorter than a name may be
pub unreachable-requires-in-Err-TooLong : goal.unreachable-requires-in-Err-TooLong
unreachable-requires-in-Err-TooLong c =
    let here = c.in-Err-TooLong in
    let short : length c.args.bytes.now ≤ 255 = length-file_name c.args.bytes.now (sym c.if-not-is_file_name.ensures) in
    let when_long = rw here.field-0-is at here.ensures.too_long here.field-0-0 in
    let long : (here.field-0-0 ≡ length c.args.bytes.now) × (1024 < here.field-0-0) = when_long.0 refl in
    omega arith
