use Rattle.sve_run.proofs.Stack.{Reached, left_of}
use Rattle.sve_run.proofs.machine.run.Given as goal

abbrev pub invariant-steps : goal.invariant-steps
invariant-steps l = Reached l.tokens l.stack.items l.at

abbrev pub decreases-steps : goal.decreases-steps
decreases-steps l = left_of l.tokens l.stack.items l.at
