use Rattle.sve_value.specs.Relations.{case_bit}
use Rattle.sve_value.proofs.Gates.{nothing}
use Rattle.sve_value.proofs.Formulas.{bitwise_is, case_ones, case_table}
use Rattle.sve_value.proofs.bitwise.same_bits.Goals as goal

pub returns : goal.returns
returns c = bitwise_is case_bit case_ones nothing case_table c.a.inside c.b.inside _ _ _ c.a.view_is c.b.view_is c.requires c.a.invariant c.b.invariant c.of_words.ensures
