use Rattle.sve_make.proofs.Stamps.{stamps}
use Rattle.sve_make.proofs.stamps_name_values.Goals as goal

pub returns : goal.returns
returns c = stamps
