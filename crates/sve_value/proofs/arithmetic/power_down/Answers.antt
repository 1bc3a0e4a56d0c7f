use Rattle.sve_value.proofs.Integers.{power_down_is}
use Rattle.sve_value.proofs.arithmetic.power_down.Goals as goal

pub returns-then-base-eq1 : goal.returns-then-base-eq1
returns-then-base-eq1 c = power_down_is c.args.base.negative c.args.base.size c.args.exponent c.if-base-eq1.true c.requires.exponent
