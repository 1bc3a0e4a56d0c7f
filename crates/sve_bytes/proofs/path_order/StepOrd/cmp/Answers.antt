use Rattle.std.proofs.Common.{rules}
use Rattle.sve_bytes.specs.PathOrder.{step_total}
use Rattle.sve_bytes.proofs.PathsAreExact.{equal_exactly, step_exact}
use Rattle.sve_bytes.proofs.path_order.StepOrd.cmp.Goals as goal

pub returns-clause-equal : goal.returns-clause-equal
returns-clause-equal c = equal_exactly step_total step_exact c.args.self.now c.args.other.now c.then.result (search rules)
