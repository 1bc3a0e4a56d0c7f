-- The turns so far, followed by those of the rounds that are left, are the turns of all.
use Rattle.std.proofs.Common.{◌≡◌, ◌++◌, drop}
use Rattle.sve_packages.specs.Turns.{numbered}
use Rattle.sve_packages.proofs.turn.numbered.Given as goal

abbrev pub invariant-rounds : goal.invariant-rounds
invariant-rounds l = l.all.items ++ numbered l.place (drop l.place l.rounds) ≡ numbered 0 l.rounds
