use Rattle.sve_plan.proofs.Runs.{less_is_over_or_same}
use Rattle.sve_plan.proofs.laws.less_is_over_or_same.Goals as goal

pub returns : goal.returns
returns g c = λ plan. less_is_over_or_same plan
