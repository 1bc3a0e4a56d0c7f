-- None was passed.
use Rattle.std.proofs.Common.{◌≡◌, drop}
use Rattle.sve_scope.specs.Spots.{spot}
use Rattle.sve_scope.specs.Lookup.{candidates}
use Rattle.sve_scope.proofs.found.first_candidate.Given as goal

abbrev pub invariant-places : goal.invariant-places
invariant-places l = candidates (spot l.here.file l.here.chunk l.token) l.name (drop l.place l.scope.wild) ≡ candidates (spot l.here.file l.here.chunk l.token) l.name (drop l.fn.from l.scope.wild)
