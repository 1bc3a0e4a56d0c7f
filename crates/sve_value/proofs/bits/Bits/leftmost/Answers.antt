use Rattle.std.proofs.Common.{ap, ◌∙◌, sym}
use Rattle.sve_value.specs.Vector.{Vector}
use Rattle.sve_value.specs.Numbers.{leftmost}
use Rattle.sve_value.proofs.Places.{leftmost-planes}
use Rattle.sve_value.proofs.bits.Bits.leftmost.Goals as goal

pub returns : goal.returns
returns c = c.of_digits.ensures ∙ sym (leftmost-planes _ _ _ c.self.invariant.0 c.self.invariant.2 c.self.invariant.3) ∙
    ap (λ (v : Vector). leftmost v.bits) c.self.view_is
