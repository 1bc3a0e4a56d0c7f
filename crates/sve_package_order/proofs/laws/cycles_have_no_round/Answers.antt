use Rattle.sve_package_order.proofs.OnCycles.{no_round}
use Rattle.sve_package_order.proofs.laws.cycles_have_no_round.Goals as goal

pub returns : goal.returns
returns c = no_round
