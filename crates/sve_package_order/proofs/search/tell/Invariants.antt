use Rattle.std.proofs.Common.{◌≡◌, ◌≤◌, ◌+◌, length}
use Rattle.sve_package_order.specs.Search.{Fits}
use Rattle.sve_package_order.proofs.search.tell.Given as goal

abbrev pub invariant-waiters : goal.invariant-waiters
invariant-waiters l = record {
  fits : Fits l.graph l.search.progress.items l.search.left;
  falls : l.search.left ≤ l.initial.search.left;
  paid : l.search.left + length l.search.ready.items ≡ l.initial.search.left + length l.initial.search.ready.items;
}
