use Rattle.std.proofs.Common.{◌≡◌, ◌≤◌, drop}
use Rattle.std.specs.Prelude.{sum_by}
use Rattle.sve_fault.specs.Counts.{counted_on}
use Rattle.sve_count.specs.Declarations.{variable_nodes}
use Rattle.sve_count.proofs.loops.count_loop.Given as goal

abbrev pub invariant-variables : goal.invariant-variables
invariant-variables g l = record {
  counts : counted_on l.fuel.used (sum_by (variable_nodes (g.E.Env.told l.env)) (drop l.variable-index l.variables)) ≡ counted_on l.fn.fuel.used (sum_by (variable_nodes (g.E.Env.told l.env)) l.variables);
  most : l.fuel.most ≡ l.fn.fuel.most;
  within : l.fuel.used ≤ l.fuel.most;
}
