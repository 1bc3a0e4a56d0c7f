use Rattle.sve_rule.proofs.TwoStates.{two_state_is}
use Rattle.sve_rule.proofs.target.two_state.Goals as goal

pub returns : goal.returns
returns c = two_state_is c.value.inside _ _ _ _ c.value.view_is c.value.invariant c.width.ensures.width c.is_signed.ensures c.number.ensures
