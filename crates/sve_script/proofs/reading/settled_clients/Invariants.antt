use Rattle.std.proofs.Common.{◌≡◌, ◌++◌, All, length}
use Rattle.sve_command.specs.Sizes.{HasFairBudget}
use Rattle.sve_script.proofs.reading.settled_clients.Given as goal

-- the clients so far and those that are left are all of them
abbrev pub invariant-loop-client : goal.invariant-loop-client
invariant-loop-client l = record {
  rest_is_fair : All (All HasFairBudget) l.client-iterator.rest.items;
  rest_len : l.client-iterator.rest.len ≡ length l.client-iterator.rest.items;
  whole : l.clients.items ++ l.client-iterator.rest.items ≡ l.fn.drafts;
}
