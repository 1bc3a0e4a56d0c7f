-- What was handed on so far, and what is left, is all that is used.
use Rattle.std.proofs.Common.{◌≡◌, drop}
use Rattle.std.specs.List.{flat_map, fold}
use Rattle.sve_use.specs.Uses.{uses}
use Rattle.sve_simple_use.proofs.simple.names_in_each.Given as goal

abbrev pub invariant-expressions : goal.invariant-expressions
invariant-expressions g l = fold g.R.Resolver.after l.names (flat_map uses (drop l.expression-index l.expressions)) ≡ fold g.R.Resolver.after l.fn.names (flat_map uses l.expressions)
