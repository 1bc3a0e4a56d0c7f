use Rattle.sve_make.proofs.Needs.{same_fuel}
use Rattle.sve_make.proofs.fuel_does_not_matter.Goals as goal

pub returns : goal.returns
returns c = same_fuel
