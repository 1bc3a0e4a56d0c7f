use Rattle.std.proofs.Common.{sym, arith}
use Rattle.sve_value.proofs.Logs.{powers-ceiling, ceiling_within, ceiling_large, ceiling_small}
use Rattle.sve_value.proofs.logarithm.ceiling_of_log.Goals as goal

pub returns-then-n-le1-clause-powers : goal.returns-then-n-le1-clause-powers
returns-then-n-le1-clause-powers c = sym (powers-ceiling c.args.n 0 c.args.width (omega arith) (ceiling_small c.args.n c.if-n-le1.true))

pub returns-else-n-le1-clause-powers : goal.returns-else-n-le1-clause-powers
returns-else-n-le1-clause-powers c = sym (powers-ceiling c.args.n _ c.args.width
    (ceiling_within c.args.n _ c.args.width c.requires.fits (ceiling_large c.args.n (omega arith) c.ranges.n.fits))
    (ceiling_large c.args.n (omega arith) c.ranges.n.fits))

pub returns-else-n-le1-clause-least : goal.returns-else-n-le1-clause-least
returns-else-n-le1-clause-least c = ceiling_large c.args.n (omega arith) c.ranges.n.fits
