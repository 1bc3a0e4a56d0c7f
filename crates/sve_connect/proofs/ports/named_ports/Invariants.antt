-- What the ports that are left add to the names so far is what all add to none.
use Rattle.std.proofs.Common.{◌≡◌, [], drop}
use Rattle.sve_connect.specs.Links.{named_ports}
use Rattle.sve_connect.proofs.ports.named_ports.Given as goal

abbrev pub invariant-ports : goal.invariant-ports
invariant-ports l = named_ports l.place (drop l.place l.ports) l.names ≡ named_ports 0 l.ports []
