use Rattle.std.proofs.Common.{ap}
use Rattle.sve_value.proofs.Words.{planes-masked}
use Rattle.sve_value.proofs.bits.of_words.Goals as goal

pub returns : goal.returns
returns c = rw c.mask-mask.ensures (ap (λ bs. record { signed = c.args.signed; bits = bs }) (planes-masked c.args.width c.args.ones c.args.unknowns))
