-- The next round of the imports that were passed.
use Rattle.std.proofs.Common.{◌≡◌, ◌≤◌, Some, take, length}
use Rattle.sve_package_order.specs.Search.{next_round, settled}
use Rattle.sve_package_order.proofs.progress.advance.Given as goal

abbrev pub invariant-imports : goal.invariant-imports
invariant-imports l = record {
  passed : next_round (settled l.progress) (take l.place l.imports) ≡ Some l.next;
  within : l.place ≤ length l.imports;
}
