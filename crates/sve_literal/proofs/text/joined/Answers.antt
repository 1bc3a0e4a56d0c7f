use Rattle.std.proofs.Common.{length, ap, ◌∙◌, arith}
use Rattle.std.proofs.lemmas.List.{length-append}
use Rattle.sve_value.specs.Vector.{Vector}
use Rattle.sve_literal.proofs.StringBytes.{byte_bits, joined_step}
use Rattle.sve_literal.proofs.text.joined.Goals as goal

pub concat-value-requires : goal.concat-value-requires
concat-value-requires c =
    let n = ap (λ (v : Vector). length v.bits) c.number.ensures ∙ byte_bits c.from.result in
    omega (arith, n, c.bytes.invariant.fits, c.requires)

pub bytes-preserved : goal.bytes-preserved
bytes-preserved c =
    let n = ap (λ (v : Vector). length v.bits) c.number.ensures ∙ byte_bits c.from.result in
    let e = ap (λ (v : Vector). length v.bits) c.concat-value.ensures ∙ length-append c.number.result.bits c.bytes.value.bits in
    record {
      rest_is_whole = rw (c.concat-value.ensures, c.number.ensures, c.from.ensures) (joined_step c.args.bytes.now c.bytes.byte-index c.bytes.value c.bytes-test.true ∙ c.bytes.invariant.rest_is_whole);
      fits = omega (arith, n, e, c.bytes.invariant.fits);
    }
