-- The parameters so far, and behind them those that are left, are all of them.
use Rattle.std.proofs.Common.{◌≡◌, drop}
use Rattle.sve_header.specs.Parameters.{parameters_behind}
use Rattle.sve_header.proofs.parameters.all_parameters.Given as goal

abbrev pub invariant-parameters : goal.invariant-parameters
invariant-parameters l = parameters_behind l.words l.list l.place l.passed (drop l.place l.parameters) ≡ parameters_behind l.words l.list 0 l.fn.passed l.parameters
