use Rattle.sve_index.proofs.Instantiated.{instantiates_told}
use Rattle.sve_index.proofs.laws.instances_are_told.Goals as goal

pub returns : goal.returns
returns c = instantiates_told
