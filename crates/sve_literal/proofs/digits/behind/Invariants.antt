use Rattle.std.proofs.Common.{◌≡◌, ◌-◌, ◌++◌, take, drop, length}
use Rattle.sve_literal.proofs.digits.behind.Given as goal

abbrev pub invariant-places : goal.invariant-places
invariant-places l = record {
  sign : l.value.signed ≡ l.fn.value.signed;
  width : length l.value.bits ≡ length l.fn.value.bits;
  bits : l.value.bits ≡ take (length l.fn.value.bits) (drop (l.places - l.done) l.digit.bits ++ l.fn.value.bits);
}
