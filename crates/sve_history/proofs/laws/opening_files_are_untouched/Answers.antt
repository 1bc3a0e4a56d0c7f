use Rattle.sve_history.proofs.Stamps.{opening_files_are_untouched}
use Rattle.sve_history.proofs.laws.opening_files_are_untouched.Goals as goal

pub returns : goal.returns
returns c = opening_files_are_untouched
