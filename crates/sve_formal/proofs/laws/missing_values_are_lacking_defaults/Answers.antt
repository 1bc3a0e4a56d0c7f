use Rattle.sve_formal.proofs.Values.{missing_values}
use Rattle.sve_formal.proofs.laws.missing_values_are_lacking_defaults.Goals as goal

pub returns : goal.returns
returns c = missing_values
