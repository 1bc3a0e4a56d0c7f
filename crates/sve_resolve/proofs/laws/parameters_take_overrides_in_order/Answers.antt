use Rattle.sve_resolve.proofs.Taken.{in_order}
use Rattle.sve_resolve.proofs.laws.parameters_take_overrides_in_order.Goals as goal

pub returns : goal.returns
returns c = in_order
