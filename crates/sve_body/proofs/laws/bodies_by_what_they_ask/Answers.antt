use Rattle.sve_plan.proofs.Asks.{asked_decide}
use Rattle.sve_body.specs.Body.{body}
use Rattle.sve_body.proofs.laws.bodies_by_what_they_ask.Goals as goal

pub returns : goal.returns
returns g c = λ steps h items s. asked_decide (body steps h items s)
