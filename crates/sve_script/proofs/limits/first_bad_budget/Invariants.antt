use Rattle.std.proofs.Common.{◌≡◌, drop}
use Rattle.sve_script.specs.Limits.{first_bad_budget}
use Rattle.sve_script.proofs.limits.first_bad_budget.Given as goal

abbrev pub invariant-loop-client : goal.invariant-loop-client
invariant-loop-client l = first_bad_budget (drop l.client-index l.clients) ≡ first_bad_budget l.clients
