use Rattle.sve_param.proofs.Lengths.{given_are_as_many}
use Rattle.sve_param.proofs.laws.each_parameter_is_given_something.Goals as goal

pub returns : goal.returns
returns c = given_are_as_many
