use Rattle.std.proofs.Common.{◌≡◌, take}
use Rattle.sve_bytes.proofs.path.Path.copy.Given as goal

abbrev pub invariant-steps : goal.invariant-steps
invariant-steps l = l.steps.items ≡ take l.step-index l.step-items
