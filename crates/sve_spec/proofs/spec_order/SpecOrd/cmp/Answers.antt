use Rattle.std.proofs.Common.{rules}
use Rattle.sve_bytes.proofs.PathsAreExact.{equal_exactly}
use Rattle.sve_spec.specs.SpecOrder.{spec_total}
use Rattle.sve_spec.proofs.TreeOrders.{spec_exact}
use Rattle.sve_spec.proofs.spec_order.SpecOrd.cmp.Goals as goal

pub returns-clause-equal : goal.returns-clause-equal
returns-clause-equal c = equal_exactly spec_total spec_exact c.args.self.now c.args.other.now c.spec_order.result (search rules)
