use Rattle.sve_settled.proofs.Settled.{settled_then}
use Rattle.sve_settled.proofs.plans_settle_in_turn.Goals as goal

pub returns : goal.returns
returns g c = λ plan next. settled_then plan next
