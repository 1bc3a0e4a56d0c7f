use Rattle.sve_plan.proofs.Runs.{cost_is_exact}
use Rattle.sve_plan.proofs.laws.cost_is_exact.Goals as goal

pub returns : goal.returns
returns g c = λ plan. cost_is_exact plan
