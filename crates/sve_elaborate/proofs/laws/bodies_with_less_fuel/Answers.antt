use Rattle.sve_plan.proofs.Runs.{less_is_over_or_same}
use Rattle.sve_elaborate.specs.Bodies.{elaborated}
use Rattle.sve_elaborate.proofs.laws.bodies_with_less_fuel.Goals as goal

pub returns : goal.returns
returns c = λ spec. less_is_over_or_same (elaborated spec)
