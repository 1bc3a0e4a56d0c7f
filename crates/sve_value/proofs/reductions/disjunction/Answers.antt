use Rattle.std.proofs.Common.{◌∙◌}
use Rattle.sve_value.proofs.Folds.{disjunction-truth}
use Rattle.sve_value.proofs.reductions.disjunction.Goals as goal

pub returns : goal.returns
returns c = c.truth_bit_of.ensures ∙ disjunction-truth c.args.a.bits
