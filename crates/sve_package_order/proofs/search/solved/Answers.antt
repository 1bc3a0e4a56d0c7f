use Rattle.sve_package_order.proofs.Steps.{begins}
use Rattle.sve_package_order.proofs.search.solved.Goals as goal

pub sweeps-init : goal.sweeps-init
sweeps-init c = begins c.args.graph.now c.in_ok-search.search.progress.items c.in_ok-search.search.left c.in_ok-search.ensures.0 c.in_ok-search.ensures.1
