use Rattle.sve_text.proofs.Commits.{commit_stamps_its_names}
use Rattle.sve_text.proofs.laws.commit_stamps_its_names.Goals as goal

pub returns : goal.returns
returns c = commit_stamps_its_names
