-- What the arguments that are left connect is what all connect.
use Rattle.std.proofs.Common.{◌≡◌, drop}
use Rattle.sve_connect.specs.Connections.{with_arguments}
use Rattle.sve_connect.proofs.connecting.with_arguments.Given as goal

abbrev pub invariant-arguments : goal.invariant-arguments
invariant-arguments g l = with_arguments (g.A.Around.seen l.around) l.ports l.names l.list.arguments.separators.items l.list.closing l.place (drop l.place l.list.arguments.items.items) l.linking
    ≡ with_arguments (g.A.Around.seen l.around) l.ports l.names l.list.arguments.separators.items l.list.closing 0 l.list.arguments.items.items l.fn.linking
