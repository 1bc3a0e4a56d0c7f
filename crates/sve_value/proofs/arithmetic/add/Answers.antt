use Rattle.std.proofs.Common.{◌∙◌, arith}
use Rattle.sve_value.proofs.Integers.{sum_is}
use Rattle.sve_value.proofs.arithmetic.add.Goals as goal

pub returns-in-Some-Some : goal.returns-in-Some-Some
returns-in-Some-Some c = c.number.ensures ∙ rw (c.width-width.ensures.width, c.is_signed-signed.ensures)
    (sum_is c.args.a c.args.b c.in-Some-Some.m c.in-Some-Some.n (omega (arith, c.width-width.ensures)) c.requires.width c.in-Some-Some.ensures.natural c.in-Some-Some.ensures'.natural)
