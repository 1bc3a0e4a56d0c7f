-- The scope so far is what the variables so far make of the first.
use Rattle.std.proofs.Common.{◌≡◌, take}
use Rattle.sve_data.specs.Used.{name_used}
use Rattle.sve_data.specs.Known.{told_in}
use Rattle.sve_loop_data.specs.Loops.{all_variables}
use Rattle.sve_loop_data.proofs.loops.all_variables.Given as goal

abbrev pub invariant-variables : goal.invariant-variables
invariant-variables l = l.looping ≡ all_variables (told_in l.text.packages.now l.text.words.now) (name_used l.text.packages.now l.text.words.now) l.text.words.now l.fn.looping (take l.variable-index l.variables)
