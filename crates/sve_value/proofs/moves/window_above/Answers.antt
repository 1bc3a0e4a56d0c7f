use Rattle.std.proofs.Common.{◌∙◌, ap, arith, List, pos}
use Rattle.sve_value.specs.declared.bit.Bit.{Bit}
use Rattle.sve_value.specs.Vector.{Vector}
use Rattle.sve_value.specs.Moves.{window}
use Rattle.sve_value.proofs.Views.{width_of}
use Rattle.sve_value.proofs.Windows.{shifted_fits, window_past, window_above_planes}
use Rattle.sve_value.proofs.moves.window_above.Goals as goal

pub padded-ones-requires-clause-fits : goal.padded-ones-requires-clause-fits
padded-ones-requires-clause-fits c = shifted_fits _ _ _ c.if-low-a.false c.a.invariant.2

pub padded-unknowns-requires-clause-fits : goal.padded-unknowns-requires-clause-fits
padded-unknowns-requires-clause-fits c = shifted_fits _ _ _ c.if-low-a.false c.a.invariant.3

pub returns-then-low-a : goal.returns-then-low-a
returns-then-low-a c = c.filled.ensures ∙ ap (λ (bs : List Bit). record { signed = c.args.signed; bits = bs })
    (window_past c.args.low c.args.width c.args.a.bits c.args.outside (omega (arith, width_of c.a.inside _ c.a.view_is, c.if-low-a.true)))

pub returns : goal.returns
returns c = c.of_words.ensures ∙ ap (λ (bs : List Bit). record { signed = c.args.signed; bits = bs })
    (window_above_planes c.a.inside.width c.a.inside.ones c.a.inside.unknowns c.args.low c.args.width _ _ c.args.outside c.if-low-a.false c.requires.1
    (record { below = c.padded-ones.ensures.below; above = rw c.is_one_or_z.ensures at c.padded-ones.ensures.above })
    (record { below = c.padded-unknowns.ensures.below; above = rw c.is_unknown.ensures at c.padded-unknowns.ensures.above }) ∙
    ap (λ (v : Vector). window (pos c.args.low) c.args.width c.args.outside v.bits) c.a.view_is)
