use Rattle.std.proofs.Common.{rules}
use Rattle.sve_bytes.proofs.PathsAreExact.{equal_exactly}
use Rattle.sve_diag.specs.DiagOrder.{place_total}
use Rattle.sve_diag.proofs.DiagsAreExact.{places_exact}
use Rattle.sve_diag.proofs.order.PlaceOrd.cmp.Goals as goal

pub returns-clause-equal : goal.returns-clause-equal
returns-clause-equal c = equal_exactly place_total places_exact c.args.self.now c.args.other.now c.then.result (search rules)
