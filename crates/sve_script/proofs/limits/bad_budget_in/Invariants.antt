use Rattle.std.proofs.Common.{◌≡◌, drop}
use Rattle.sve_command.specs.Sizes.{bad_budget_of}
use Rattle.sve_script.specs.Limits.{first_of}
use Rattle.sve_script.proofs.limits.bad_budget_in.Given as goal

abbrev pub invariant-loop-command : goal.invariant-loop-command
invariant-loop-command l = first_of bad_budget_of (drop l.command-index l.commands) ≡ first_of bad_budget_of l.commands
