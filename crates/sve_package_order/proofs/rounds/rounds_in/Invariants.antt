use Rattle.std.proofs.Common.{◌≡◌, take, map}
use Rattle.sve_package_order.specs.Search.{found}
use Rattle.sve_package_order.proofs.rounds.rounds_in.Given as goal

abbrev pub invariant-rounds : goal.invariant-rounds
invariant-rounds l = l.rounds.items ≡ map found (take l.each-index l.progress)
