use Rattle.std.proofs.Common.{◌≡◌}
use Rattle.sve_runner.specs.Told.{all_told}
use Rattle.sve_runner.proofs.running.all_told.Given as goal

abbrev pub invariant-loop-one : goal.invariant-loop-one
invariant-loop-one l = l.yielded ≡ all_told l.all.items
