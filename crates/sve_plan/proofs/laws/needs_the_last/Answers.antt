use Rattle.sve_plan.proofs.Asks.{needs_the_last}
use Rattle.sve_plan.proofs.laws.needs_the_last.Goals as goal

pub returns : goal.returns
returns g c = λ plan. needs_the_last plan
