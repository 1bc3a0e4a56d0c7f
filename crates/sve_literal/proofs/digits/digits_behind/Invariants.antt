use Rattle.std.proofs.Common.{◌≡◌, drop}
use Rattle.sve_literal.specs.Digits.{digits_behind}
use Rattle.sve_literal.proofs.digits.digits_behind.Given as goal

abbrev pub invariant-letters : goal.invariant-letters
invariant-letters l = digits_behind l.places (drop l.letter-index l.letters) l.value ≡ digits_behind l.places l.letters l.fn.value
