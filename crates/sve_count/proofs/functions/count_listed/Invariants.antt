use Rattle.std.proofs.Common.{◌≡◌, ◌≤◌, drop}
use Rattle.std.specs.Prelude.{sum_by}
use Rattle.sve_fault.specs.Counts.{counted_on}
use Rattle.sve_count.specs.Functions.{formal_nodes}
use Rattle.sve_count.proofs.functions.count_listed.Given as goal

abbrev pub invariant-formals : goal.invariant-formals
invariant-formals g l = record {
  counts : counted_on l.fuel.used (sum_by (formal_nodes (g.E.Env.told l.env)) (drop l.formal-index l.formals)) ≡ counted_on l.fn.fuel.used (sum_by (formal_nodes (g.E.Env.told l.env)) l.formals);
  most : l.fuel.most ≡ l.fn.fuel.most;
  within : l.fuel.used ≤ l.fuel.most;
}
