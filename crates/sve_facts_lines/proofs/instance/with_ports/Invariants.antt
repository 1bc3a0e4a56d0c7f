-- The lines of the ports so far.
use Rattle.std.proofs.Common.{◌≡◌, ◌++◌, take, map}
use Rattle.sve_listing.specs.Lists.{on_one_line}
use Rattle.sve_facts_lines.specs.Instances.{port_text}
use Rattle.sve_facts_lines.proofs.instance.with_ports.Given as goal

abbrev pub invariant-ports : goal.invariant-ports
invariant-ports l = l.all ≡ l.fn.lines ++ map (λ x. on_one_line (port_text x)) (take l.port-index l.room)
