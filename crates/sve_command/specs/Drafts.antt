-- Commands as they are read.
use Rattle.std.specs.Prelude.{ℕ, Option}
use Rattle.sve_command.specs.declared.commands.Command.{Command}
use Rattle.sve_command.specs.declared.commands.Command.TheVariants.{Commit, Ask}

-- the command, with this budget where it is an ask
abbrev pub with_budget : Option ℕ → Command → Command
with_budget budget (Commit edits) = Commit edits
with_budget budget (Ask query mode other) = Ask query mode budget
