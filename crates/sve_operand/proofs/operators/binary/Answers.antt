use Rattle.std.proofs.Common.{refl, ◌∙◌}
use Rattle.sve_operand.proofs.Pendings.{means_shared, means_shifted}
use Rattle.sve_operand.proofs.operators.binary.Goals as goal

pub returns-in_ok-behind-in-Shared : goal.returns-in_ok-behind-in-Shared
returns-in_ok-behind-in-Shared c = means_shared c.args.operator c.args.a c.args.b _ _ c.max-width.ensures c.in-Shared.ensures (λ w s. c.in_ok-behind-in-Shared.ensures w s ∙ rw c.into_pending.ensures (rw c.into_pending-in-Shared.ensures refl))

pub returns-in_ok-behind-in-Shifted : goal.returns-in_ok-behind-in-Shifted
returns-in_ok-behind-in-Shifted c = means_shifted c.args.operator c.in-Shifted.operator c.args.a c.args.b _ c.in-Shifted.ensures (λ w s. c.in_ok-behind-in-Shifted.ensures w s ∙ rw c.own_value.ensures.value (rw c.into_pending-in-Shifted.ensures refl))
