use Rattle.std.proofs.Common.{◌≡◌, drop}
use Rattle.sve_literal.specs.Digits.{padding_of}
use Rattle.sve_literal.proofs.digits.padding.Given as goal

abbrev pub invariant-letters : goal.invariant-letters
invariant-letters l = padding_of (drop l.letter-index l.letters) ≡ padding_of l.letters
