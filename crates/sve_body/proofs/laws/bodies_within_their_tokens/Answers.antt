use Rattle.sve_body.proofs.Budget.{is_within_budget}
use Rattle.sve_body.proofs.laws.bodies_within_their_tokens.Goals as goal

pub returns : goal.returns
returns g c = λ steps h items s modest told fuel enough over. is_within_budget steps h items s modest told fuel enough over
