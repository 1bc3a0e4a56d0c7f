use Rattle.std.proofs.Common.{◌<◌}
use Rattle.sve_plan.proofs.Runs.{needs_its_own}
use Rattle.sve_plan.proofs.Asks.{asks_its_own}
use Rattle.sve_plan.proofs.laws.needs_lower_rank.Goals as goal

pub returns-clause-needs : goal.returns-clause-needs
returns-clause-needs g c = λ plan rank bound only. needs_its_own (λ q. rank q < bound) plan only

pub returns-clause-asks : goal.returns-clause-asks
returns-clause-asks g c = λ plan rank bound only. asks_its_own (λ q. rank q < bound) plan only
