use Rattle.std.proofs.Common.{rules}
use Rattle.sve_bytes.specs.PathOrder.{path_total}
use Rattle.sve_bytes.proofs.PathsAreExact.{equal_exactly, path_exact}
use Rattle.sve_bytes.proofs.path_order.PathOrd.cmp.Goals as goal

pub returns-clause-equal : goal.returns-clause-equal
returns-clause-equal c = equal_exactly path_total path_exact c.args.self.now c.args.other.now c.cmp.result (search rules)
