use Rattle.sve_history.proofs.Pushes.{entry_makes_the_next_revision}
use Rattle.sve_history.proofs.laws.entry_makes_the_next_revision.Goals as goal

pub returns : goal.returns
returns c = entry_makes_the_next_revision
