use Rattle.std.proofs.Common.{◌∷◌, take, length, ap, sym, ◌∙◌, arith}
use Rattle.sve_value.specs.Vector.{Vector}
use Rattle.sve_literal.proofs.DigitRows.{bit_behind, length_shifted}
use Rattle.sve_literal.proofs.digits.behind.Goals as goal

pub places-preserved : goal.places-preserved
places-preserved c =
    let width = c.places.invariant.width in
    let e = ap (λ (v : Vector). v.bits) c.shift_in-value.ensures ∙ ap (λ n. take n (c.bit.result ∷ c.places.value.bits)) width in
    record {
      sign = ap (λ (v : Vector). v.signed) c.shift_in-value.ensures ∙ c.places.invariant.sign;
      width = ap (λ (v : Vector). length v.bits) c.shift_in-value.ensures ∙ length_shifted c.places.value.bits c.bit.result ∙ width;
      bits = e ∙ bit_behind (length c.args.value.bits) c.width-places.result c.places.done c.args.digit.bits c.args.value.bits c.places.value.bits c.bit.result (sym c.width-places.ensures.width) (omega arith) c.bit.ensures c.places.invariant.bits;
    }
