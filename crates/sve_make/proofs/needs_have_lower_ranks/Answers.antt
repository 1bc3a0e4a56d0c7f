use Rattle.sve_make.proofs.Needs.{lower_rank}
use Rattle.sve_make.proofs.needs_have_lower_ranks.Goals as goal

pub returns : goal.returns
returns c = lower_rank
