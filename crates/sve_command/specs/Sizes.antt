-- How much a command asks for: its edits, and its budget (own).
use Rattle.std.specs.Prelude.{ℕ, ◌≡◌, ◌&&◌, Option, Some, None, length, nat_le, if◌then◌else◌}
use Rattle.sve_command.specs.declared.commands.Command.{Command}
use Rattle.sve_command.specs.declared.commands.Command.TheVariants.{Commit, Ask}
use Rattle.sve_command.specs.declared.commands.TheConstants.{MAX_BUDGET}

-- how many edits a command has
abbrev pub edit_count : Command → ℕ
edit_count (Commit edits) = length edits
edit_count (Ask query mode budget) = 0

-- the budget, where it is 0 or above the limit
abbrev pub bad_budget : Option ℕ → Option ℕ
bad_budget None = None
bad_budget (Some number) = if nat_le 1 number && nat_le number MAX_BUDGET then None else Some number

abbrev pub bad_budget_of : Command → Option ℕ
bad_budget_of (Commit edits) = None
bad_budget_of (Ask query mode budget) = bad_budget budget

-- the command's budget is one that an ask may have
abbrev pub HasFairBudget : Command → Type 0
HasFairBudget command = bad_budget_of command ≡ None
