-- The parameters so far, and behind them those that are left, are all of them.
use Rattle.std.proofs.Common.{◌≡◌, drop}
use Rattle.sve_scoped.specs.Known.{told_in}
use Rattle.sve_body_parameter.specs.Overridable.{parameters_behind}
use Rattle.sve_body_parameter.proofs.overridable.all_parameters.Given as goal

abbrev pub invariant-assignments : goal.invariant-assignments
invariant-assignments l = parameters_behind (told_in l.text.packages.now l.text.words.now) l.text.words.now l.given l.form l.is_array l.written l.index l.so_far (drop l.index l.written.assignments.items.items) ≡ parameters_behind (told_in l.text.packages.now l.text.words.now) l.text.words.now l.given l.form l.is_array l.written 0 l.fn.so_far l.written.assignments.items.items
