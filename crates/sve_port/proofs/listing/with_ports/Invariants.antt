-- What the ports that are left add is what all add, and so is what they count.
use Rattle.std.proofs.Common.{◌≡◌, ◌≤◌, drop}
use Rattle.sve_fault.specs.Counts.{counted_on}
use Rattle.sve_port.specs.Ports.{nodes_of_ports, with_ports}
use Rattle.sve_port.proofs.listing.with_ports.Given as goal

abbrev pub invariant-ports : goal.invariant-ports
invariant-ports g l = record {
  rest_is_whole : with_ports (g.E.Env.told l.env) (g.I.Interfaces.kinds l.interfaces) l.listed (drop l.port-index l.written) ≡ with_ports (g.E.Env.told l.env) (g.I.Interfaces.kinds l.interfaces) l.fn.listed l.written;
  counts : counted_on l.fuel.used (nodes_of_ports (g.E.Env.told l.env) (g.I.Interfaces.kinds l.interfaces) (drop l.port-index l.written)) ≡ counted_on l.fn.fuel.used (nodes_of_ports (g.E.Env.told l.env) (g.I.Interfaces.kinds l.interfaces) l.written);
  most : l.fuel.most ≡ l.fn.fuel.most;
  within : l.fuel.used ≤ l.fuel.most;
}
