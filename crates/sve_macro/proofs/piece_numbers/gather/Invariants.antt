use Rattle.sve_macro.specs.Numbers.{Gathers}
use Rattle.sve_macro.proofs.piece_numbers.gather.Given as goal

abbrev pub invariant-loop-place : goal.invariant-loop-place
invariant-loop-place l = Gathers l.numbers l.actuals l.place l.gathered.items
