use Rattle.sve_function.proofs.Follow.{facts_alike}
use Rattle.sve_function.proofs.laws.facts_follow.Goals as goal

pub returns : goal.returns
returns c = facts_alike
