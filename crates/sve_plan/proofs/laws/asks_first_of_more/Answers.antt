use Rattle.sve_plan.proofs.Asks.{asks_first_of_more}
use Rattle.sve_plan.proofs.laws.asks_first_of_more.Goals as goal

pub returns : goal.returns
returns g c = λ plan. asks_first_of_more plan
