use Rattle.sve_text.proofs.Commits.{edit_changes_one_name}
use Rattle.sve_text.proofs.laws.edit_changes_one_name.Goals as goal

pub returns : goal.returns
returns c = edit_changes_one_name
