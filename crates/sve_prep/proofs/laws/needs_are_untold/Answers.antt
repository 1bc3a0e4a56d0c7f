use Rattle.sve_prep.proofs.Asked as law
use Rattle.sve_prep.proofs.laws.needs_are_untold.Goals as goal

pub returns : goal.returns
returns c = law.needs_are_untold
