use Rattle.sve_resolve.proofs.Taken.{all_in_list}
use Rattle.sve_resolve.proofs.laws.lists_have_all_that_can_be_overridden.Goals as goal

pub returns : goal.returns
returns c = all_in_list
