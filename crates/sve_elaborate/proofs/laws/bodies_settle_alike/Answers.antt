use Rattle.sve_plan.proofs.Asks.{settled_alike}
use Rattle.sve_elaborate.specs.Bodies.{elaborated}
use Rattle.sve_elaborate.proofs.laws.bodies_settle_alike.Goals as goal

pub returns : goal.returns
returns c = λ spec. settled_alike (elaborated spec)
