use Rattle.std.proofs.Common.{◌≡◌, true, ◌+◌, ◌*◌, ◌-◌, rules, arith}
use Rattle.std.proofs.lemmas.Bool.{both_ways}
use Rattle.std.specs.Char.{is_ascii_digit}
use Rattle.sve_bytes.proofs.StageIndices.{digits_end, digits_go_on, size_within}
use Rattle.sve_bytes.proofs.path_reading.after_digits.Goals as goal
use Rattle.sve_bytes.proofs.path_reading.after_digits.Goals.{then-not-is_ascii_digit-via-then-not-is_ascii_digit, then-not-is_ascii_digit-via-else-not-is_ascii_digit+then-size-eq0}

pub returns-then-not-is_ascii_digit : goal.returns-then-not-is_ascii_digit
returns-then-not-is_ascii_digit c = λ so_far h.
    digits_end so_far c.args.name.now c.args.negative c.args.size c.args.byte h.0 h.1 c.if-byte-eq93.false
    (elim c.then-not-is_ascii_digit.branch [
      | then-not-is_ascii_digit-via-then-not-is_ascii_digit w ↦ λ digit _. absurd (both_ways (is_ascii_digit c.args.byte) (search rules) digit)
      | then-not-is_ascii_digit-via-else-not-is_ascii_digit+then-size-eq0 w ↦ λ _ some. absurd (omega (arith, w.if-size-eq0.true))
    ])

pub returns-then-longer-greatest_size : goal.returns-then-longer-greatest_size
returns-then-longer-greatest_size c = λ so_far h.
    digits_end so_far c.args.name.now c.args.negative c.args.size c.args.byte h.0 h.1 c.if-byte-eq93.false
    (λ _ _. omega (arith, c.if-longer-greatest_size.true, c.greatest_size.ensures, c.from.ensures, c.from-2.ensures))

pub returns : goal.returns
returns c = λ so_far h.
    let digit : is_ascii_digit c.args.byte ≡ true = search rules in
    rw (c.from.ensures, c.from-2.ensures)
    (size_within c.args.negative (c.args.size * 10 + (c.args.byte - 48)) c.greatest_size.result c.greatest_size.ensures (omega arith) (omega arith), digits_go_on so_far c.args.name.now c.args.negative c.args.size c.args.byte h.0 h.1 digit (omega arith))
