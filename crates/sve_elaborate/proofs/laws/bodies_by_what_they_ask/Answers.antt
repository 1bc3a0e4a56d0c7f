use Rattle.sve_plan.proofs.Asks.{asked_decide}
use Rattle.sve_elaborate.specs.Bodies.{elaborated}
use Rattle.sve_elaborate.proofs.laws.bodies_by_what_they_ask.Goals as goal

pub returns : goal.returns
returns c = λ spec. asked_decide (elaborated spec)
