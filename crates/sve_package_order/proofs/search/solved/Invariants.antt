use Rattle.sve_package_order.specs.Search.{Fits}
use Rattle.sve_package_order.proofs.search.solved.Given as goal

abbrev pub invariant-sweeps : goal.invariant-sweeps
invariant-sweeps l = Fits l.graph l.search.progress.items l.search.left

abbrev pub decreases-sweeps : goal.decreases-sweeps
decreases-sweeps l = l.search.left
