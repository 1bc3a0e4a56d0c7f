use Rattle.sve_find.proofs.OnTheWalk.{found_is_visited}
use Rattle.sve_find.proofs.laws.what_is_found_is_visited.Goals as goal

pub returns : goal.returns
returns c = found_is_visited
