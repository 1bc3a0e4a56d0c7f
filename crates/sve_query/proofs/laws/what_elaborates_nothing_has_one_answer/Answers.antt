use Rattle.sve_query.proofs.OneAnswer.{one_answer}
use Rattle.sve_query.proofs.laws.what_elaborates_nothing_has_one_answer.Goals as goal

pub returns : goal.returns
returns c = one_answer
