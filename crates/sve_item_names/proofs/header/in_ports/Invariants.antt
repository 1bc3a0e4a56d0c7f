-- What was added so far, and those that are left, are all of them.
use Rattle.std.proofs.Common.{◌≡◌, ◌++◌, drop}
use Rattle.std.specs.List.{flat_map}
use Rattle.sve_item_names.specs.Declarations.{port_headings}
use Rattle.sve_item_names.proofs.header.in_ports.Given as goal

abbrev pub invariant-loop-port : goal.invariant-loop-port
invariant-loop-port l = l.found.items ++ flat_map port_headings (drop l.port-index l.ports) ≡ l.initial.found.items ++ flat_map port_headings l.ports
