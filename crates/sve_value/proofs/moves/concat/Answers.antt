use Rattle.std.proofs.Common.{arith}
use Rattle.sve_value.proofs.Views.{width_of, concat_view}
use Rattle.sve_value.proofs.moves.concat.Goals as goal

pub overflow_shl-a-inside : goal.overflow_shl-a-inside
overflow_shl-a-inside c = omega (arith, width_of c.a.inside _ c.a.view_is, width_of c.b.inside _ c.b.view_is, c.a.invariant.0)

pub overflow_shl-a-inside-2 : goal.overflow_shl-a-inside-2
overflow_shl-a-inside-2 c = omega (arith, width_of c.a.inside _ c.a.view_is, width_of c.b.inside _ c.b.view_is, c.a.invariant.0)

pub of_words-requires : goal.of_words-requires
of_words-requires c = (omega (arith, c.a.invariant.0), omega (arith, width_of c.a.inside _ c.a.view_is, width_of c.b.inside _ c.b.view_is))

pub returns : goal.returns
returns c = concat_view c.a.inside c.b.inside _ _ _ c.a.view_is c.b.view_is c.requires c.a.invariant c.b.invariant c.of_words.ensures
