use Rattle.sve_settled.proofs.Settled.{never_over}
use Rattle.sve_settled.proofs.plans_are_never_over.Goals as goal

pub returns : goal.returns
returns g c = λ plan. never_over plan
