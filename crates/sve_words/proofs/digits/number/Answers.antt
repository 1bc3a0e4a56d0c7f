use Rattle.std.proofs.Common.{◌≡◌, decimal, ap, sym, ◌∙◌, arith, true≢false}
use Rattle.sve_words.proofs.Numbers.{same_text, text_same, number_is, no_number, plain, number_fits}
use Rattle.sve_words.proofs.digits.number.Goals as goal
use Rattle.sve_words.proofs.digits.number.Goals.{else-n-ge1-via-then-n-ge1+then-n-most+else-eq, else-n-ge1-via-then-n-ge1+else-n-most, else-n-ge1-via-else-n-ge1}

-- where it is no number of 32 bits, it writes none that is smaller
pub returns-in_default : goal.returns-in_default
returns-in_default c = sym (no_number c.args.most c.args.text.now (λ n w.
    let is = plain c.args.most c.args.text.now n c.ranges.most.fits w in
    c.in_default.ensures.value.0 (is.0, number_fits c.args.most c.args.text.now n _ c.ranges.most.fits w is.1)))

pub returns-then-eq : goal.returns-then-eq
returns-then-eq c = sym (number_is c.args.most c.args.text.now c.in-Ok.n c.ranges.most.fits (record { some = c.if-n-ge1.true; most = c.if-n-most.true; written = sym c.format.ensures.text ∙ same_text c.format.result.now c.args.text.now (sym c.if-eq.ensures) }))

pub returns-else-n-ge1 : goal.returns-else-n-ge1
returns-else-n-ge1 c = sym (no_number c.args.most c.args.text.now (λ m w.
    let is = plain c.args.most c.args.text.now m c.ranges.most.fits w in
    let same : c.in-Ok.n ≡ m = c.in-Ok.ensures.value.0.1 ∙ is.1 in
    elim c.else-n-ge1.branch [
      | else-n-ge1-via-then-n-ge1+then-n-most+else-eq b ↦ absurd (true≢false (sym (text_same b.format.result.now c.args.text.now (b.format.ensures.text ∙ ap decimal same ∙ w.written)) ∙ sym b.if-eq.ensures))
      | else-n-ge1-via-then-n-ge1+else-n-most b ↦ absurd (omega (arith, same, w.most, b.if-n-most.false))
      | else-n-ge1-via-else-n-ge1 b ↦ absurd (omega (arith, same, w.some, b.if-n-ge1.false))
    ]))
