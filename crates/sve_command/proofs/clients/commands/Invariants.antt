use Rattle.sve_shape.proofs.EachItem.{IsTakenUpTo}
use Rattle.sve_command.specs.Commands.{command_of}
use Rattle.sve_command.proofs.clients.commands.Given as goal

abbrev pub invariant-loop-i : goal.invariant-loop-i
invariant-loop-i l = IsTakenUpTo command_of l.items l.commands.items l.i
