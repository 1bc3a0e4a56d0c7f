-- What was added and counted so far, and what the items that are left give, is all that they give.
use Rattle.std.proofs.Common.{◌≡◌, ◌≤◌, ◌++◌, drop, sum_by}
use Rattle.std.specs.List.{flat_map}
use Rattle.sve_fault.specs.Counts.{counted_on}
use Rattle.sve_choice.specs.Labels.{item_nodes, label_faults, numbered, valued}
use Rattle.sve_choice.specs.Held.{labels_held}
use Rattle.sve_choice.proofs.label.add_items.Given as goal

abbrev pub invariant-items : goal.invariant-items
invariant-items g l = record {
  valued : labels_held l.labels.valued.items ++ flat_map valued (numbered (g.E.Env.told l.env) l.number (drop l.number l.items)) ≡ labels_held l.fn.labels.valued.items ++ flat_map valued (numbered (g.E.Env.told l.env) 0 l.items);
  faults : l.labels.faults.items ++ flat_map label_faults (numbered (g.E.Env.told l.env) l.number (drop l.number l.items)) ≡ l.fn.labels.faults.items ++ flat_map label_faults (numbered (g.E.Env.told l.env) 0 l.items);
  counts : counted_on l.fuel.used (sum_by (item_nodes (g.E.Env.told l.env)) (drop l.number l.items)) ≡ counted_on l.fn.fuel.used (sum_by (item_nodes (g.E.Env.told l.env)) l.items);
  most : l.fuel.most ≡ l.fn.fuel.most;
  within : l.fuel.used ≤ l.fuel.most;
}
