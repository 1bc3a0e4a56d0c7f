use Rattle.sve_value.proofs.Words.{mask_is}
use Rattle.sve_value.proofs.bits.mask.Goals as goal

pub returns : goal.returns
returns c = mask_is c.args.width c.requires.1
