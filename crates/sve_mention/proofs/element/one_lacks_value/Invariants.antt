-- None so far: one stands among the others, or nowhere.
use Rattle.std.proofs.Common.{◌≡◌, drop}
use Rattle.std.specs.List.{list_any}
use Rattle.sve_mention.specs.InElements.{lacks_value}
use Rattle.sve_mention.proofs.element.one_lacks_value.Given as goal

abbrev pub invariant-loop-port : goal.invariant-loop-port
invariant-loop-port l = list_any lacks_value l.ports ≡ list_any lacks_value (drop l.port-index l.ports)
