-- What was added so far, and the modports of the ports that are left, are all of them.
use Rattle.std.proofs.Common.{◌≡◌, ◌++◌, drop}
use Rattle.std.specs.List.{flat_map}
use Rattle.sve_design_kinds.specs.Faces.{port_modports}
use Rattle.sve_design_kinds.proofs.faces.in_ports.Given as goal

abbrev pub invariant-loop-port : goal.invariant-loop-port
invariant-loop-port l = l.found.items ++ flat_map (port_modports l.kinds l.words) (drop l.port-index l.ports) ≡ l.initial.found.items ++ flat_map (port_modports l.kinds l.words) l.ports
