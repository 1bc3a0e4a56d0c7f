use Rattle.std.proofs.Common.{ap, Err, arith}
use Rattle.sve_directive.proofs.NameLemmas.{long_macro_name}
use Rattle.sve_directive.proofs.name.macro_name.Goals as goal

pub returns-in-Err-TooLong : goal.returns-in-Err-TooLong
returns-in-Err-TooLong c =
    let own = (c.in-Err-TooLong.ensures.too_long c.in-Err-TooLong.field-0-0).0 (ap Err c.in-Err-TooLong.field-0-is) in
    long_macro_name c.args.bytes.now (omega (arith, own.0, own.1))
