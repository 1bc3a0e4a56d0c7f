-- Where none was settled so far, the packages that were tried can have no round yet.
use Rattle.std.proofs.Common.{◌≡◌, ◌≤◌}
use Rattle.sve_package_order.specs.Search.{Fits, SolvesBelow}
use Rattle.sve_package_order.proofs.search.sweep.Given as goal

abbrev pub invariant-packages : goal.invariant-packages
invariant-packages l = record {
  fits : Fits l.graph l.search.progress.items l.search.left;
  falls : l.search.left ≤ l.initial.search.left;
  solves : l.search.left ≡ l.initial.search.left → SolvesBelow l.graph l.search.progress.items l.place;
}
