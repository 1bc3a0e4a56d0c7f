use Rattle.std.proofs.Common.{◌∙◌, arith}
use Rattle.sve_value.proofs.Integers.{product_is}
use Rattle.sve_value.proofs.arithmetic.multiply.Goals as goal

pub returns-in-Some-Some : goal.returns-in-Some-Some
returns-in-Some-Some c = c.value_of.ensures ∙ rw (c.width-width.ensures.width, c.is_signed-signed.ensures)
    (product_is c.args.a c.args.b c.in-Some-Some.m.negative c.in-Some-Some.n.negative c.in-Some-Some.m.size c.in-Some-Some.n.size (omega (arith, c.width-width.ensures)) c.in-Some-Some.ensures.whole c.in-Some-Some.ensures'.whole)
