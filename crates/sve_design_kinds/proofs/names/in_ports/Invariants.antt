-- What was added so far, and the names of the ports that are left, are all of them.
use Rattle.std.proofs.Common.{◌≡◌, ◌++◌, drop}
use Rattle.std.specs.List.{flat_map}
use Rattle.sve_design_kinds.specs.Names.{port_names}
use Rattle.sve_design_kinds.proofs.names.in_ports.Given as goal

abbrev pub invariant-loop-port : goal.invariant-loop-port
invariant-loop-port l = l.found.items ++ flat_map port_names (drop l.port-index l.ports) ≡ l.initial.found.items ++ flat_map port_names l.ports
