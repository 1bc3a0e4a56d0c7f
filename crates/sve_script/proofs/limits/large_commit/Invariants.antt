use Rattle.std.proofs.Common.{◌≡◌, drop}
use Rattle.sve_script.specs.Limits.{large_commit}
use Rattle.sve_script.proofs.limits.large_commit.Given as goal

abbrev pub invariant-loop-client : goal.invariant-loop-client
invariant-loop-client l = large_commit (drop l.client-index l.clients) ≡ large_commit l.clients
