use Rattle.std.proofs.Common.{drop}
use Rattle.std.specs.List.{flat_map}
use Rattle.sve_lint.specs.Rules.{HasAllBut}
use Rattle.sve_lint.specs.Meanings.{port_findings, unconnected_rule}
use Rattle.sve_lint.proofs.unconnected.visit_ports.Given as goal

-- all was added but what the ports that are left give
abbrev pub invariant-ports : goal.invariant-ports
invariant-ports l =
    HasAllBut (flat_map (port_findings l.instance) (drop l.port-index l.port-items)) (flat_map (port_findings l.instance) l.port-items)
    (unconnected_rule l.initial.found.items) (unconnected_rule l.found.items)
