use Rattle.sve_text.proofs.Puts.{put_changes_one_name}
use Rattle.sve_text.proofs.laws.put_changes_one_name.Goals as goal

pub returns : goal.returns
returns c = put_changes_one_name
