-- The ports so far, and behind them those that are left, are all of them.
use Rattle.std.proofs.Common.{◌≡◌, drop}
use Rattle.sve_header.specs.Ports.{ports_behind}
use Rattle.sve_header.proofs.ports.all_ports.Given as goal

abbrev pub invariant-ports : goal.invariant-ports
invariant-ports l = ports_behind l.words l.faces l.list l.place l.passed (drop l.place l.ports) ≡ ports_behind l.words l.faces l.list 0 l.fn.passed l.ports
