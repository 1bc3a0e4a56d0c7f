use Rattle.sve_value.specs.Bitwise.{or_bit}
use Rattle.sve_value.proofs.Formulas.{bitwise_is, or_ones, or_unknowns, or_table}
use Rattle.sve_value.proofs.bitwise.or.Goals as goal

pub returns : goal.returns
returns c = bitwise_is or_bit or_ones or_unknowns or_table c.a.inside c.b.inside _ _ _ c.a.view_is c.b.view_is c.requires c.a.invariant c.b.invariant c.of_words.ensures
