use Rattle.std.specs.Prelude.{IsTrue}
use Rattle.sve_settled.proofs.Settled.{asked_settle}
use Rattle.sve_settled.proofs.asked_settle.Goals as goal

pub returns : goal.returns
returns g c = λ can plan only. asked_settle (λ q. IsTrue (can q)) plan only
