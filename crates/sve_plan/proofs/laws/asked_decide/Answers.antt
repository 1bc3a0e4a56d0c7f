use Rattle.sve_plan.proofs.Asks.{asked_decide}
use Rattle.sve_plan.proofs.laws.asked_decide.Goals as goal

pub returns : goal.returns
returns g c = λ plan. asked_decide plan
