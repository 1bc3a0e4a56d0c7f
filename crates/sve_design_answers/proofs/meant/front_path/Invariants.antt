-- The steps so far.
use Rattle.std.proofs.Common.{◌≡◌, take}
use Rattle.sve_design_answers.proofs.meant.front_path.Given as goal

abbrev pub invariant-steps : goal.invariant-steps
invariant-steps l = l.first.items ≡ take l.step-index l.front
