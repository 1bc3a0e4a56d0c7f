use Rattle.std.proofs.Common.{◌≡◌, take, map}
use Rattle.sve_runner.specs.Honest.{told_entry}
use Rattle.sve_runner.proofs.running.told_entries.Given as goal

abbrev pub invariant-entries : goal.invariant-entries
invariant-entries l = l.entries.items ≡ map told_entry (take l.r l.history.entries)
