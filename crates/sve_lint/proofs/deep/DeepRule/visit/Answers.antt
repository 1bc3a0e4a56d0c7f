use Rattle.sve_lint.proofs.Parts.{nothing_in_part}
use Rattle.sve_lint.proofs.deep.DeepRule.visit.Goals as goal

pub returns-in_err-copy-clause-part : goal.returns-in_err-copy-clause-part
returns-in_err-copy-clause-part c = nothing_in_part _ _

pub returns-in_err-copy-2-clause-part : goal.returns-in_err-copy-2-clause-part
returns-in_err-copy-2-clause-part c = nothing_in_part _ _
