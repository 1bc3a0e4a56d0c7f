use Rattle.std.proofs.Common.{◌≡◌, map}
use Rattle.sve_runner.specs.Told.{records_of, counts_of}
use Rattle.sve_runner.proofs.running.parted.Given as goal

abbrev pub invariant-loop-one : goal.invariant-loop-one
invariant-loop-one l = (l.records.items ≡ map records_of l.yielded) × (l.counts.items ≡ map counts_of l.yielded)
