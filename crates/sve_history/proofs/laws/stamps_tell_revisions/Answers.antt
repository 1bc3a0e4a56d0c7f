use Rattle.sve_history.proofs.Stamps.{stamps_tell_revisions}
use Rattle.sve_history.proofs.laws.stamps_tell_revisions.Goals as goal

pub returns : goal.returns
returns c = stamps_tell_revisions
