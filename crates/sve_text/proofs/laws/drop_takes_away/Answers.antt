use Rattle.sve_text.proofs.Commits.{drop_takes_away}
use Rattle.sve_text.proofs.laws.drop_takes_away.Goals as goal

pub returns : goal.returns
returns c = drop_takes_away
