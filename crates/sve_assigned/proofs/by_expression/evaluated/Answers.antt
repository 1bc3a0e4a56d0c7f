use Rattle.sve_const.specs.Answers.{evaluated}
use Rattle.std.proofs.Common.{None}
use Rattle.sve_assigned.proofs.Counts.{bad_counts}
use Rattle.sve_assigned.proofs.by_expression.evaluated.Goals as goal

pub returns-in-Err-Bad-clause-count : goal.returns-in-Err-Bad-clause-count
returns-in-Err-Bad-clause-count g c = bad_counts c.in-Err-Bad.field-0 c.in-Err-Bad.note (evaluated (g.E.Env.told c.args.env.now) None c.args.expr.now) (g.E.Env.told c.args.env.now) c.args.fuel.now c.eval.new.fuel _ c.in-Err-Bad.field-0-is c.in-Err-Bad.ensures.evaluates
