use Rattle.sve_macro.proofs.Balance.{brackets_are_balanced}
use Rattle.sve_macro.proofs.laws.brackets_are_balanced.Goals as goal

pub returns : goal.returns
returns c = brackets_are_balanced
