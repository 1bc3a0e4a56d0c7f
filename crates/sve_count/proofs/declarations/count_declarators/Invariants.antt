use Rattle.std.proofs.Common.{◌≡◌, ◌≤◌, drop}
use Rattle.std.specs.Prelude.{sum_by}
use Rattle.sve_fault.specs.Counts.{counted_on}
use Rattle.sve_count.specs.Declarations.{initialized_nodes}
use Rattle.sve_count.proofs.declarations.count_declarators.Given as goal

abbrev pub invariant-declarators : goal.invariant-declarators
invariant-declarators g l = record {
  counts : counted_on l.fuel.used (sum_by (initialized_nodes (g.E.Env.told l.env)) (drop l.initialized-index l.declarators)) ≡ counted_on l.fn.fuel.used (sum_by (initialized_nodes (g.E.Env.told l.env)) l.declarators);
  most : l.fuel.most ≡ l.fn.fuel.most;
  within : l.fuel.used ≤ l.fuel.most;
}
