-- What the ports that are left make of the end so far is what all make.
use Rattle.std.proofs.Common.{◌≡◌, drop}
use Rattle.sve_connect.specs.Connections.{ports_ended}
use Rattle.sve_connect.proofs.connecting.with_ports.Given as goal

abbrev pub invariant-ports : goal.invariant-ports
invariant-ports g l = ports_ended (g.A.Around.seen l.around) l.links l.star l.at l.place (drop l.place l.ports) l.ending ≡ ports_ended (g.A.Around.seen l.around) l.links l.star l.at 0 l.ports l.fn.ending
