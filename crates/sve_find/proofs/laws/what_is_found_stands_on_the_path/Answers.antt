use Rattle.sve_find.proofs.OnThePath.{found_stands}
use Rattle.sve_find.proofs.laws.what_is_found_stands_on_the_path.Goals as goal

pub returns : goal.returns
returns c = found_stands
