use Rattle.sve_plan.proofs.Asks.{settled_alike}
use Rattle.sve_body.specs.Body.{body}
use Rattle.sve_body.proofs.laws.bodies_settle_alike.Goals as goal

pub returns : goal.returns
returns g c = λ steps h items s. settled_alike (body steps h items s)
