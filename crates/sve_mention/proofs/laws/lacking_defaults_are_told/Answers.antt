use Rattle.sve_mention.proofs.Ports.{lacking_told}
use Rattle.sve_mention.proofs.laws.lacking_defaults_are_told.Goals as goal

pub returns : goal.returns
returns c = lacking_told
