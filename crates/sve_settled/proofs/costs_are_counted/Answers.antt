use Rattle.sve_settled.proofs.Settled.{cost_is_counted}
use Rattle.sve_settled.proofs.costs_are_counted.Goals as goal

pub returns : goal.returns
returns g c = λ plan. cost_is_counted plan
