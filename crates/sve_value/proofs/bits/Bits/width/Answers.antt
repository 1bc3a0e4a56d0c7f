use Rattle.sve_value.proofs.Views.{width_of}
use Rattle.sve_value.proofs.bits.Bits.width.Goals as goal

pub returns-clause-width : goal.returns-clause-width
returns-clause-width c = width_of c.self.inside _ c.self.view_is
