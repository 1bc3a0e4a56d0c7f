use Rattle.std.proofs.Common.{◌≡◌, rules, arith, true}
use Rattle.std.proofs.lemmas.Bool.{both_ways}
use Rattle.std.specs.Char.{is_ascii_digit}
use Rattle.sve_bytes.proofs.StageIndices.{digit_range, minus_digit, no_digit}
use Rattle.sve_bytes.proofs.path_reading.after_minus.Goals as goal
use Rattle.sve_bytes.proofs.path_reading.after_minus.Goals.{else-is_ascii_digit-via-then-is_ascii_digit+else-byte-ne48, else-is_ascii_digit-via-else-is_ascii_digit}

pub returns-then-byte-ne48 : goal.returns-then-byte-ne48
returns-then-byte-ne48 c =
    let digit : is_ascii_digit c.args.byte ≡ true = search rules in
    let range = digit_range c.args.byte digit in
    λ so_far h. ((omega (arith, range.0, range.1), omega (arith, range.0, range.1)), rw c.from.ensures (minus_digit so_far c.args.name.now c.args.byte h digit))

pub returns : goal.returns
returns c = λ so_far h.
    no_digit so_far c.args.name.now c.args.byte h
    (elim c.else-is_ascii_digit.branch [
      | else-is_ascii_digit-via-then-is_ascii_digit+else-byte-ne48 w ↦ λ _. search rules
      | else-is_ascii_digit-via-else-is_ascii_digit w ↦ λ digit. absurd (both_ways (is_ascii_digit c.args.byte) (search rules) digit)
    ])
