use Rattle.sve_value.specs.Bitwise.{xor_bit}
use Rattle.sve_value.proofs.Formulas.{bitwise_is, xor_ones, either_unknown, xor_table}
use Rattle.sve_value.proofs.bitwise.xor.Goals as goal

pub returns : goal.returns
returns c = bitwise_is xor_bit xor_ones either_unknown xor_table c.a.inside c.b.inside _ _ _ c.a.view_is c.b.view_is c.requires c.a.invariant c.b.invariant c.of_words.ensures
