use Rattle.sve_mention.proofs.Instantiated.{mentions_are_instantiations}
use Rattle.sve_mention.proofs.laws.instances_are_mentioned.Goals as goal

pub returns : goal.returns
returns c = mentions_are_instantiations
