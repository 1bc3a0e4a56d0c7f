-- What was handed on so far, and what is left, is all that is used.
use Rattle.std.proofs.Common.{◌≡◌, drop}
use Rattle.std.specs.List.{flat_map, fold}
use Rattle.sve_simple_use.specs.Simple.{for_step_uses}
use Rattle.sve_simple_use.proofs.simple.names_in_for_steps.Given as goal

abbrev pub invariant-steps : goal.invariant-steps
invariant-steps g l = fold g.R.Resolver.after l.names (flat_map for_step_uses (drop l.step-index l.steps)) ≡ fold g.R.Resolver.after l.fn.names (flat_map for_step_uses l.steps)
