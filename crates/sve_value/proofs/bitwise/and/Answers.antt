use Rattle.sve_value.specs.Bitwise.{and_bit}
use Rattle.sve_value.proofs.Formulas.{bitwise_is, and_ones, and_unknowns, and_table}
use Rattle.sve_value.proofs.bitwise.and.Goals as goal

pub returns : goal.returns
returns c = bitwise_is and_bit and_ones and_unknowns and_table c.a.inside c.b.inside _ _ _ c.a.view_is c.b.view_is c.requires c.a.invariant c.b.invariant c.of_words.ensures
