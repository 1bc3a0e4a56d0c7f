use Rattle.std.proofs.Common.{rules}
use Rattle.sve_bytes.proofs.PathsAreExact.{equal_exactly}
use Rattle.sve_diag.specs.DiagOrder.{code_total}
use Rattle.sve_diag.proofs.DiagsAreExact.{codes_exact}
use Rattle.sve_diag.proofs.order.CodeOrd.cmp.Goals as goal

pub returns-clause-equal : goal.returns-clause-equal
returns-clause-equal c = equal_exactly code_total codes_exact c.args.self.now c.args.other.now c.cmp.result (search rules)
