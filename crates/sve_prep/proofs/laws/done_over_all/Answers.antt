use Rattle.sve_prep.proofs.Asked as law
use Rattle.sve_prep.proofs.laws.done_over_all.Goals as goal

pub returns : goal.returns
returns c = law.done_over_all
