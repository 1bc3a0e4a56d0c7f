use Rattle.std.proofs.Common.{◌≡◌, ◌+◌, drop, length, sum_by}
use Rattle.sve_runner.proofs.running.command_count.Given as goal

abbrev pub invariant-loop-client : goal.invariant-loop-client
invariant-loop-client l = l.count + sum_by length (drop l.client-index l.clients) ≡ sum_by length l.clients
