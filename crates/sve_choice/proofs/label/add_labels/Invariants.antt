-- What was added and counted so far, and what the labels that are left give, is all that they give.
use Rattle.std.proofs.Common.{◌≡◌, ◌≤◌, ◌++◌, drop, sum_by}
use Rattle.std.specs.List.{flat_map}
use Rattle.sve_fault.specs.Counts.{counted_on}
use Rattle.sve_env.specs.Nodes.{nodes}
use Rattle.sve_choice.specs.Labels.{label_faults, numbered_labels, valued}
use Rattle.sve_choice.specs.Held.{labels_held}
use Rattle.sve_choice.proofs.label.add_labels.Given as goal

abbrev pub invariant-labels : goal.invariant-labels
invariant-labels g l = record {
  valued : labels_held l.labels.valued.items ++ flat_map valued (numbered_labels (g.E.Env.told l.env) l.item (drop l.expr-index l.exprs)) ≡ labels_held l.fn.labels.valued.items ++ flat_map valued (numbered_labels (g.E.Env.told l.env) l.item l.exprs);
  faults : l.labels.faults.items ++ flat_map label_faults (numbered_labels (g.E.Env.told l.env) l.item (drop l.expr-index l.exprs)) ≡ l.fn.labels.faults.items ++ flat_map label_faults (numbered_labels (g.E.Env.told l.env) l.item l.exprs);
  counts : counted_on l.fuel.used (sum_by (nodes (g.E.Env.told l.env)) (drop l.expr-index l.exprs)) ≡ counted_on l.fn.fuel.used (sum_by (nodes (g.E.Env.told l.env)) l.exprs);
  most : l.fuel.most ≡ l.fn.fuel.most;
  within : l.fuel.used ≤ l.fuel.most;
}
