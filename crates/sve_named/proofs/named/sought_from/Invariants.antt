-- What was found so far is what is found at the path of so many steps.
use Rattle.std.proofs.Common.{◌≡◌}
use Rattle.sve_named.specs.Named.{sought_from}
use Rattle.sve_named.proofs.named.sought_from.Given as goal

abbrev pub invariant-levels : goal.invariant-levels
invariant-levels l = l.sought ≡ sought_from l.project l.scopes l.steps l.name l.level
