use Rattle.sve_package.proofs.Ahead.{first_functions}
use Rattle.sve_package.proofs.laws.first_functions_are_ahead.Goals as goal

pub returns : goal.returns
returns c = first_functions
