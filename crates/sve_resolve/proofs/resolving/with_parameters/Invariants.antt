-- What the parameters that are left add is what all add, and so is what they count.
use Rattle.std.proofs.Common.{◌≡◌, ◌≤◌, drop}
use Rattle.sve_fault.specs.Counts.{counted_on}
use Rattle.sve_resolve.specs.Resolving.{nodes_of_parameters, with_parameters}
use Rattle.sve_resolve.proofs.resolving.with_parameters.Given as goal

abbrev pub invariant-ports : goal.invariant-ports
invariant-ports g l = record {
  rest_is_whole : with_parameters (g.E.Env.told l.env) l.given l.resolving (drop l.port-index l.ports) ≡ with_parameters (g.E.Env.told l.env) l.given l.fn.resolving l.ports;
  counts : counted_on l.fuel.used (nodes_of_parameters (g.E.Env.told l.env) l.given l.resolving (drop l.port-index l.ports)) ≡ counted_on l.fn.fuel.used (nodes_of_parameters (g.E.Env.told l.env) l.given l.fn.resolving l.ports);
  most : l.fuel.most ≡ l.fn.fuel.most;
  within : l.fuel.used ≤ l.fuel.most;
}
