use Rattle.sve_plan.proofs.Asks.{settled_alike}
use Rattle.sve_plan.proofs.laws.settled_alike.Goals as goal

pub returns : goal.returns
returns g c = λ plan. settled_alike plan
