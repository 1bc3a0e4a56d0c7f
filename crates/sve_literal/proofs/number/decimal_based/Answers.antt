use Rattle.std.proofs.Common.{ℕ, ◌≤◌, ap, ◌∙◌, arith}
use Rattle.sve_value.specs.Numbers.{number_of}
use Rattle.sve_literal.specs.Digits.{decimal_from}
use Rattle.sve_literal.specs.Numbers.{decimal_in}
use Rattle.sve_literal.proofs.DigitRows.{number_cut}
use Rattle.sve_literal.proofs.number.decimal_based.Goals as goal

pub returns-in-Zero : goal.returns-in-Zero
returns-in-Zero c =
    let h : c.args.width ≤ 128 = omega arith in
    c.number.ensures ∙ ap (λ (n : ℕ). number_of c.args.width c.args.signed n) c.wide_number.ensures
    ∙ number_cut c.args.width (decimal_from 0 c.args.digits.now) c.args.signed h ∙ ap (decimal_in c.args.width c.args.signed c.args.digits.now) c.in-Zero.ensures

pub returns-in-One : goal.returns-in-One
returns-in-One c =
    let h : c.args.width ≤ 128 = omega arith in
    c.number-in-One.ensures ∙ ap (λ (n : ℕ). number_of c.args.width c.args.signed n) c.wide_number-in-One.ensures
    ∙ number_cut c.args.width (decimal_from 0 c.args.digits.now) c.args.signed h ∙ ap (decimal_in c.args.width c.args.signed c.args.digits.now) c.in-One.ensures
