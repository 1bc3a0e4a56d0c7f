use Rattle.std.proofs.Common.{arith}
use Rattle.sve_parse_expr.proofs.levels.looser_level.Goals as goal

pub returns-then-closes : goal.returns-then-closes
returns-then-closes c n lo hi = c.closes_operand-closes.ensures c.if-closes.true n (omega arith) (omega (arith, c.requires))
