use Rattle.std.proofs.Common.{◌∙◌, arith}
use Rattle.sve_value.proofs.Integers.{power_up_is}
use Rattle.sve_value.proofs.arithmetic.power.Goals as goal

pub returns-in-Some-Some-2 : goal.returns-in-Some-Some-2
returns-in-Some-Some-2 c = c.value_of-in-Some-Some-2.ensures ∙ rw (c.width-width.ensures.width, c.is_signed-signed.ensures)
    (power_up_is c.args.a c.args.b c.in-Some-Some.base.negative c.in-Some-Some.exponent.negative c.in-Some-Some.base.size c.in-Some-Some.exponent.size _
    (omega (arith, c.width-width.ensures)) c.in-Some-Some.ensures.sign c.if-exponent.false c.in-Some-Some.ensures.whole c.in-Some-Some.ensures'.whole c.power_up.ensures)
