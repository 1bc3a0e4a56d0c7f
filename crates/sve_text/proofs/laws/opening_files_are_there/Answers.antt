use Rattle.sve_text.proofs.Opening.{opening_files_are_there}
use Rattle.sve_text.proofs.laws.opening_files_are_there.Goals as goal

pub returns : goal.returns
returns c = opening_files_are_there
