use Rattle.std.proofs.Common.{◌≡◌, ◌%◌, ◌^◌, ◌<◌, drop}
use Rattle.sve_literal.specs.Digits.{decimal_from}
use Rattle.sve_literal.proofs.digits.wide_number.Given as goal

abbrev pub invariant-digits : goal.invariant-digits
invariant-digits l = record {
  rest_is_whole : decimal_from l.number (drop l.digit-index l.digits) % 2 ^ 128 ≡ decimal_from 0 l.digits % 2 ^ 128;
  in_range : l.number < 2 ^ 128;
}
