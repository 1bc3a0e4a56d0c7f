use Rattle.std.proofs.Common.{◌≡◌, drop}
use Rattle.sve_command.specs.Sizes.{edit_count}
use Rattle.sve_script.specs.declared.sessions.TheConstants.{MAX_EDITS}
use Rattle.sve_script.specs.Limits.{above, first_of}
use Rattle.sve_script.proofs.limits.large_commit_of.Given as goal

abbrev pub invariant-loop-command : goal.invariant-loop-command
invariant-loop-command l = first_of (λ command. above MAX_EDITS (edit_count command)) (drop l.command-index l.commands) ≡ first_of (λ command. above MAX_EDITS (edit_count command)) l.commands
