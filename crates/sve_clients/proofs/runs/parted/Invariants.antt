use Rattle.std.proofs.Common.{◌≡◌, map}
use Rattle.sve_clients.specs.Runs.{pass_of, left_of}
use Rattle.sve_clients.proofs.runs.parted.Given as goal

abbrev pub invariant-loop-ran : goal.invariant-loop-ran
invariant-loop-ran g l = (l.passes.items ≡ map pass_of l.yielded) × (l.left.items ≡ map left_of l.yielded)
