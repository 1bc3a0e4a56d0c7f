use Rattle.std.proofs.Common.{◌≡◌, ◌≤◌, drop}
use Rattle.std.specs.Prelude.{sum_by}
use Rattle.sve_fault.specs.Counts.{counted_on}
use Rattle.sve_count.specs.Declarations.{assignment_nodes}
use Rattle.sve_count.proofs.parameters.count_assignments.Given as goal

abbrev pub invariant-assignments : goal.invariant-assignments
invariant-assignments g l = record {
  counts : counted_on l.fuel.used (sum_by (assignment_nodes (g.E.Env.told l.env)) (drop l.assignment-index l.assignments)) ≡ counted_on l.fn.fuel.used (sum_by (assignment_nodes (g.E.Env.told l.env)) l.assignments);
  most : l.fuel.most ≡ l.fn.fuel.most;
  within : l.fuel.used ≤ l.fuel.most;
}
