use Rattle.sve_resolve.proofs.Taken.{no_others}
use Rattle.sve_resolve.proofs.laws.no_other_overrides_are_taken.Goals as goal

pub returns : goal.returns
returns c = no_others
