use Rattle.std.proofs.Common.{◌∙◌, ap}
use Rattle.sve_value.specs.Vector.{Vector}
use Rattle.sve_value.specs.Bitwise.{not_bit}
use Rattle.sve_value.specs.Truths.{disjunction}
use Rattle.sve_value.proofs.Folds.{conjunction-dual}
use Rattle.sve_value.proofs.reductions.conjunction.Goals as goal

pub returns : goal.returns
returns c = c.not-2.ensures ∙ ap not_bit (c.disjunction.ensures ∙ ap (λ (v : Vector). disjunction v.bits) c.not.ensures) ∙ conjunction-dual c.args.a.bits
