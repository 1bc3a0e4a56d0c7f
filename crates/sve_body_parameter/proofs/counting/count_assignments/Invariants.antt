-- What was counted, with what the parameters that are left count, is what all count.
use Rattle.std.proofs.Common.{◌≡◌, ◌≤◌, drop}
use Rattle.sve_fault.specs.Counts.{counted_on}
use Rattle.sve_body_parameter.specs.Nodes.{assignments_nodes}
use Rattle.sve_body_parameter.proofs.counting.count_assignments.Given as goal

abbrev pub invariant-assignments : goal.invariant-assignments
invariant-assignments g l = record {
  counts : counted_on l.fuel.used (assignments_nodes (g.E.Env.told l.env) l.given l.place (drop l.assignment-index l.assignments)) ≡ counted_on l.fn.fuel.used (assignments_nodes (g.E.Env.told l.env) l.given l.fn.place l.assignments);
  most : l.fuel.most ≡ l.fn.fuel.most;
  within : l.fuel.used ≤ l.fuel.most;
}
