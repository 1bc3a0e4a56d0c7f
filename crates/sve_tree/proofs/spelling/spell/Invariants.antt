use Rattle.sve_grammar.specs.Reading.{Numbered}
use Rattle.sve_tree.proofs.spelling.spell.Given as goal

-- the numbers so far
abbrev pub invariant-numbers : goal.invariant-numbers
invariant-numbers l = Numbered 0 l.i l.numbers.items
