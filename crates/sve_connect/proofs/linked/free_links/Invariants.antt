-- The ports so far, and those that are left, are all of them.
use Rattle.std.proofs.Common.{◌≡◌, ◌++◌, drop, map}
use Rattle.sve_connect.specs.Links.{free_link}
use Rattle.sve_connect.proofs.linked.free_links.Given as goal

abbrev pub invariant-ports : goal.invariant-ports
invariant-ports l = l.links.items ++ map free_link (drop l.port-index l.ports) ≡ map free_link l.ports
