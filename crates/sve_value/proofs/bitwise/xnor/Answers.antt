use Rattle.sve_value.specs.Bitwise.{xnor_bit}
use Rattle.sve_value.proofs.Formulas.{bitwise_is, xnor_ones, either_unknown, xnor_table}
use Rattle.sve_value.proofs.bitwise.xnor.Goals as goal

pub returns : goal.returns
returns c = bitwise_is xnor_bit xnor_ones either_unknown xnor_table c.a.inside c.b.inside _ _ _ c.a.view_is c.b.view_is c.requires c.a.invariant c.b.invariant c.of_words.ensures
