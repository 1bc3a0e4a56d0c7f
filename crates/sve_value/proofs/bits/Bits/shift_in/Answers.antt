use Rattle.std.proofs.Common.{◌∙◌}
use Rattle.sve_value.proofs.Places.{shift_in_planes}
use Rattle.sve_value.proofs.Views.{shift_in_view}
use Rattle.sve_value.proofs.bits.Bits.shift_in.Goals as goal

pub returns : goal.returns
returns c = c.of_words.ensures ∙ shift_in_view c.self.inside _ c.args.bit _ _ c.self.view_is
    (shift_in_planes _ c.self.inside.ones c.self.inside.unknowns _ _ c.args.bit c.self.invariant.1
    (rw c.is_one_or_z.ensures at c.raised-ones.ensures.below) c.raised-ones.ensures.above
    (rw c.is_unknown.ensures at c.raised-unknowns.ensures.below) c.raised-unknowns.ensures.above)
