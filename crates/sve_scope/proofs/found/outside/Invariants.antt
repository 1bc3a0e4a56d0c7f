-- What the scopes that are left give is what all of them give.
use Rattle.std.proofs.Common.{◌≡◌, ◌+◌, drop}
use Rattle.sve_scope.specs.Spots.{spot}
use Rattle.sve_scope.specs.Lookup.{in_scopes}
use Rattle.sve_scope.proofs.found.outside.Given as goal

abbrev pub invariant-scopes : goal.invariant-scopes
invariant-scopes l = in_scopes (spot l.here.file l.here.chunk l.token) l.name (l.place + 1) (drop l.place l.around) ≡ in_scopes (spot l.here.file l.here.chunk l.token) l.name 1 l.around
