use Rattle.sve_value.proofs.Views.{same_is}
use Rattle.sve_value.proofs.bits.Bits.is_same.Goals as goal

pub returns : goal.returns
returns c = same_is c.self.inside c.other.inside _ _ c.self.view_is c.other.view_is c.self.invariant c.other.invariant
