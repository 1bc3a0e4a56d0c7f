use Rattle.std.proofs.Common.{ap, ◌∙◌}
use Rattle.sve_value.proofs.Words.{planes-binary}
use Rattle.sve_value.proofs.bits.Bits.number.Goals as goal

pub returns : goal.returns
returns c = c.of_words.ensures ∙ ap (λ bs. record { signed = c.args.signed; bits = bs }) (planes-binary c.args.width c.args.number)
