-- The parts of a state that another state determines.
use Rattle.std.proofs.Common.{◌≡◌, ℕ, List, Option, None, ap}
use Rattle.sve_diag.specs.declared.code.Code.{Code}
use Rattle.sve_prep.specs.declared.work.Work.{Work}
use Rattle.sve_prep.specs.State.{State, report}
use Rattle.sve_prep.specs.View.{Becomes}

-- after a report the same bytes are left
pub rest_of : (old new : Work) (code : Code) (arg : Option (List ℕ)) → Becomes old new (report code arg) → new.rest ≡ old.rest
rest_of old new code arg h = ap (λ (s : State). s.rest) (h None)
