use Rattle.sve_prep.proofs.Larger as law
use Rattle.sve_prep.proofs.laws.done_alike.Goals as goal

pub returns : goal.returns
returns c = law.done_alike
