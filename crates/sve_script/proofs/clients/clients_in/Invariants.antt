use Rattle.sve_shape.specs.Shapes.{array_as}
use Rattle.sve_shape.proofs.EachItem.{IsTakenUpTo}
use Rattle.sve_command.specs.Commands.{command_of}
use Rattle.sve_script.proofs.clients.clients_in.Given as goal

abbrev pub invariant-loop-i : goal.invariant-loop-i
invariant-loop-i l = IsTakenUpTo (array_as command_of) l.items l.clients.items l.i
