use Rattle.std.proofs.Common.{◌≡◌, ◌++◌, take}
use Rattle.sve_design.proofs.visits.inside.Given as goal

abbrev pub invariant-parent : goal.invariant-parent
invariant-parent l = l.steps.items ≡ take l.step-index l.step-items

abbrev pub invariant-path : goal.invariant-path
invariant-path l = l.steps.items ≡ l.parent.steps ++ take l.step-index l.step-items
