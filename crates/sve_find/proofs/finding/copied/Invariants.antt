use Rattle.std.proofs.Common.{◌≡◌, take}
use Rattle.sve_find.proofs.finding.copied.Given as goal

abbrev pub invariant-steps : goal.invariant-steps
invariant-steps l = l.copies.items ≡ take l.step-index l.steps
