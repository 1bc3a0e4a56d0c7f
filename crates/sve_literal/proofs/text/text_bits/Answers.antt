use Rattle.std.proofs.Common.{length, ap, ◌∙◌, arith}
use Rattle.sve_value.specs.Vector.{Vector}
use Rattle.sve_literal.proofs.StringBytes.{byte_bits, behind_first}
use Rattle.sve_literal.proofs.text.text_bits.Goals as goal

pub joined-requires : goal.joined-requires
joined-requires c =
    let n = ap (λ (v : Vector). length v.bits) c.number-first.ensures ∙ byte_bits c.from.result in
    omega (arith, n, behind_first c.args.bytes.now, c.if-bytes-gt16.false)
