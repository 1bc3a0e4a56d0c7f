use Rattle.std.proofs.Common.{ap, ◌∙◌}
use Rattle.sve_value.proofs.Places.{filled_planes}
use Rattle.sve_value.proofs.bits.Bits.filled.Goals as goal

pub returns : goal.returns
returns c = c.of_words.ensures ∙ ap (λ bs. record { signed = c.args.signed; bits = bs })
    (filled_planes _ _ _ c.args.bit c.requires.1 (rw c.is_one_or_z.ensures at c.repeated.ensures) (rw c.is_unknown.ensures at c.repeated-2.ensures))
