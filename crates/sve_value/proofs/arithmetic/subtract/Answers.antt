use Rattle.std.proofs.Common.{◌∙◌, arith}
use Rattle.sve_value.proofs.Words.{below_128}
use Rattle.sve_value.proofs.Integers.{difference_is}
use Rattle.sve_value.proofs.arithmetic.subtract.Goals as goal

pub returns-in-Some-Some : goal.returns-in-Some-Some
returns-in-Some-Some c = c.number.ensures ∙ rw (c.width-width.ensures.width, c.is_signed-signed.ensures)
    (difference_is c.args.a c.args.b c.in-Some-Some.m c.in-Some-Some.n (omega (arith, c.width-width.ensures)) c.requires.width
    (below_128 _ _ (omega (arith, c.width-width.ensures, c.requires.width)) c.in-Some-Some.ensures'.fits)
    c.in-Some-Some.ensures.natural c.in-Some-Some.ensures'.natural)
