use Rattle.std.proofs.Common.{rules}
use Rattle.sve_bytes.proofs.PathsAreExact.{equal_exactly}
use Rattle.sve_diag.specs.DiagOrder.{diag_total}
use Rattle.sve_diag.proofs.DiagsAreExact.{diags_exact}
use Rattle.sve_diag.proofs.order.DiagOrd.cmp.Goals as goal

pub returns-clause-equal : goal.returns-clause-equal
returns-clause-equal c = equal_exactly diag_total diags_exact c.args.self.now c.args.other.now c.then-2.result (search rules)
