-- What was handed on so far, and what is left, is all that is used.
use Rattle.std.proofs.Common.{◌≡◌, drop}
use Rattle.std.specs.List.{flat_map, fold}
use Rattle.sve_simple_use.specs.Simple.{event_value_uses}
use Rattle.sve_simple_use.proofs.event.names_in_each.Given as goal

abbrev pub invariant-events : goal.invariant-events
invariant-events g l = fold g.R.Resolver.after l.names (flat_map event_value_uses (drop l.event-index l.events)) ≡ fold g.R.Resolver.after l.fn.names (flat_map event_value_uses l.events)
