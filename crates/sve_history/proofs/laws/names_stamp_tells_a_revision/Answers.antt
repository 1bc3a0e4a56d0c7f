use Rattle.sve_history.proofs.Stamps.{names_stamp_tells_a_revision}
use Rattle.sve_history.proofs.laws.names_stamp_tells_a_revision.Goals as goal

pub returns : goal.returns
returns c = names_stamp_tells_a_revision
