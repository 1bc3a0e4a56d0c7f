use Rattle.sve_make.proofs.Values.{reading}
use Rattle.sve_make.proofs.needs_are_read.Goals as goal

pub returns : goal.returns
returns c = reading
