use Rattle.sve_macro.proofs.Formals.{IsIndexFrom}
use Rattle.sve_macro.proofs.template.index_of.Given as goal

abbrev pub invariant-loop-left : goal.invariant-loop-left
invariant-loop-left l = IsIndexFrom l.index l.formals l.left

abbrev pub decreases-loop-left : goal.decreases-loop-left
decreases-loop-left l = l.left
