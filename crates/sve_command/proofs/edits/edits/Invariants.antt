use Rattle.sve_shape.proofs.EachItem.{IsTakenUpTo}
use Rattle.sve_command.specs.Edits.{edit_of}
use Rattle.sve_command.proofs.edits.edits.Given as goal

abbrev pub invariant-loop-i : goal.invariant-loop-i
invariant-loop-i l = IsTakenUpTo edit_of l.items l.edits.items l.i
