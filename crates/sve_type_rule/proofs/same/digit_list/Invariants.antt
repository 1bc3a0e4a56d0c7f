-- The digits so far, and behind them those of the bits that are left, are the digits of all.
use Rattle.std.proofs.Common.{◌≡◌, ◌++◌, drop}
use Rattle.sve_type_rule.specs.Same.{digits_of}
use Rattle.sve_type_rule.proofs.same.digit_list.Given as goal

abbrev pub invariant-places : goal.invariant-places
invariant-places l = l.digits.items ++ digits_of (drop l.place l.value.bits) ≡ digits_of l.value.bits
