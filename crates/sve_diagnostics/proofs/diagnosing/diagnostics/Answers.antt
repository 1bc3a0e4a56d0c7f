use Rattle.sve_design.proofs.Asked.{if_err}
use Rattle.sve_diagnostics.proofs.diagnosing.diagnostics.Goals as goal

pub returns-in_err-instances-clause-halted : goal.returns-in_err-instances-clause-halted
returns-in_err-instances-clause-halted g c = λ design of. if_err _ (c.in_err-instances.ensures.halted design of)
