use Rattle.std.proofs.Common.{◌≡◌, ◌≤◌, min, drop}
use Rattle.sve_literal.specs.Digits.{decimal_from}
use Rattle.sve_literal.proofs.digits.small_number.Given as goal

abbrev pub invariant-digits : goal.invariant-digits
invariant-digits l = record {
  rest_is_whole : min (decimal_from l.number (drop l.digit-index l.digits)) 4294967296 ≡ min (decimal_from 0 l.digits) 4294967296;
  in_range : l.number ≤ 4294967296;
}
