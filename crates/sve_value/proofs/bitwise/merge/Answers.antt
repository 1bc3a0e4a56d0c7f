use Rattle.sve_value.specs.Bitwise.{merge_bit}
use Rattle.sve_value.proofs.Formulas.{bitwise_is, merge_ones, merge_unknowns, merge_table}
use Rattle.sve_value.proofs.bitwise.merge.Goals as goal

pub returns : goal.returns
returns c = bitwise_is merge_bit merge_ones merge_unknowns merge_table c.a.inside c.b.inside _ _ _ c.a.view_is c.b.view_is c.requires c.a.invariant c.b.invariant c.of_words.ensures
