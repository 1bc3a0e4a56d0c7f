use Rattle.std.proofs.Common.{◌≡◌, ◌++◌, All, length}
use Rattle.sve_command.specs.Sizes.{HasFairBudget}
use Rattle.sve_script.proofs.reading.settled_client.Given as goal

-- the commands so far and those that are left are all of them
abbrev pub invariant-loop-draft : goal.invariant-loop-draft
invariant-loop-draft l = record {
  rest_is_fair : All HasFairBudget l.draft-iterator.rest.items;
  rest_len : l.draft-iterator.rest.len ≡ length l.draft-iterator.rest.items;
  whole : l.commands.items ++ l.draft-iterator.rest.items ≡ l.fn.drafts;
}
