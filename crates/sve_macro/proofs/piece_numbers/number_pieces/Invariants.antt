use Rattle.sve_macro.specs.Numbers.{AreNumbered}
use Rattle.sve_macro.proofs.piece_numbers.number_pieces.Given as goal

abbrev pub invariant-loop-number : goal.invariant-loop-number
invariant-loop-number l = AreNumbered l.formals l.pieces l.number l.numbers
