use Rattle.sve_value.proofs.Formulas.{bitwise_not_is}
use Rattle.sve_value.proofs.bitwise.not.Goals as goal

pub returns : goal.returns
returns c = bitwise_not_is c.a.inside _ _ c.a.view_is c.a.invariant c.of_words.ensures
