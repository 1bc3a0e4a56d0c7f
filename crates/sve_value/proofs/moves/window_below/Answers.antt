use Rattle.std.proofs.Common.{◌∙◌, ap, arith, List, take, replicate, ◌++◌}
use Rattle.sve_value.specs.declared.bit.Bit.{Bit}
use Rattle.sve_value.specs.Vector.{Vector}
use Rattle.sve_value.proofs.Windows.{window_below_planes, window_before}
use Rattle.sve_value.proofs.moves.window_below.Goals as goal

pub returns : goal.returns
returns c = c.of_words.ensures ∙ ap (λ (bs : List Bit). record { signed = c.args.signed; bits = bs })
    (window_below_planes c.a.inside.width c.a.inside.ones c.a.inside.unknowns c.args.below c.args.width _ _ _ _ c.args.outside c.requires.1
    (record { below = c.padded.ensures.below; above = rw c.is_one_or_z-one.ensures at c.padded.ensures.above })
    (record { below = c.padded-2.ensures.below; above = rw c.is_unknown-unknown.ensures at c.padded-2.ensures.above })
    (rw c.is_one_or_z-one.ensures at c.raised-ones.ensures.below) c.raised-ones.ensures.above
    (rw c.is_unknown-unknown.ensures at c.raised-unknowns.ensures.below) c.raised-unknowns.ensures.above ∙
    ap (λ (v : Vector). take c.args.width (replicate c.args.below c.args.outside ++ v.bits ++ replicate c.args.width c.args.outside)) c.a.view_is)

pub returns-then-below-ge128 : goal.returns-then-below-ge128
returns-then-below-ge128 c = c.filled.ensures ∙ ap (λ (bs : List Bit). record { signed = c.args.signed; bits = bs })
    (window_before c.args.below c.args.width c.args.a.bits c.args.outside (omega arith))
