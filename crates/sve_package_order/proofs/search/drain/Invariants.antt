-- Each turn takes one of the packages that are ready, and each package that becomes ready is one of those that were left.
use Rattle.std.proofs.Common.{◌≤◌, ◌+◌, length}
use Rattle.sve_package_order.specs.Search.{Fits}
use Rattle.sve_package_order.proofs.search.drain.Given as goal

abbrev pub invariant-ready : goal.invariant-ready
invariant-ready l = record {
  fits : Fits l.graph l.search.progress.items l.search.left;
  falls : l.search.left ≤ l.initial.search.left;
}

abbrev pub decreases-ready : goal.decreases-ready
decreases-ready l = l.search.left + length l.search.ready.items
