use Rattle.std.proofs.Common.{◌≡◌, take}
use Rattle.sve_hier.proofs.paths.front.Given as goal

abbrev pub invariant-steps : goal.invariant-steps
invariant-steps l = l.steps.items ≡ take l.step-index l.step-items
