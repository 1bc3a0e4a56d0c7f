use Rattle.sve_plan.proofs.Runs.{cost_is_exact}
use Rattle.sve_elaborate.specs.Bodies.{elaborated}
use Rattle.sve_elaborate.proofs.laws.bodies_cost_exactly.Goals as goal

pub returns : goal.returns
returns c = λ spec. cost_is_exact (elaborated spec)
