use Rattle.sve_design.proofs.Asked.{if_err}
use Rattle.sve_survey.proofs.surveyed.surveyed_instances.Goals as goal

pub returns-in_err-survey-clause-halted : goal.returns-in_err-survey-clause-halted
returns-in_err-survey-clause-halted g c = λ design of. if_err _ (c.in_err-survey.ensures.halted design of)
