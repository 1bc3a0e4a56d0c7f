use Rattle.sve_value.specs.Relations.{wildcard_bit}
use Rattle.sve_value.proofs.Formulas.{bitwise_is, wildcard_ones, wildcard_unknowns, wildcard_table}
use Rattle.sve_value.proofs.bitwise.matching_bits.Goals as goal

pub returns : goal.returns
returns c = bitwise_is wildcard_bit wildcard_ones wildcard_unknowns wildcard_table c.a.inside c.pattern.inside _ _ _ c.a.view_is c.pattern.view_is c.requires c.a.invariant c.pattern.invariant c.of_words.ensures
