use Rattle.sve_settled.proofs.Settled.{settles}
use Rattle.sve_settled.proofs.plans_settle.Goals as goal

pub returns : goal.returns
returns g c = λ plan. settles plan
