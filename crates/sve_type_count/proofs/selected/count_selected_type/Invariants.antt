use Rattle.std.proofs.Common.{◌≡◌, ◌≤◌, drop}
use Rattle.sve_fault.specs.Counts.{counted_on}
use Rattle.sve_type_of.specs.Selected.{bound_count}
use Rattle.sve_type_count.proofs.selected.count_selected_type.Given as goal

abbrev pub invariant-selects : goal.invariant-selects
invariant-selects g l = record {
  counts : counted_on l.fuel.used (bound_count (g.E.Env.told l.env) (drop l.select-index l.selects)) ≡ counted_on l.fn.fuel.used (bound_count (g.E.Env.told l.env) l.selects);
  most : l.fuel.most ≡ l.fn.fuel.most;
  within : l.fuel.used ≤ l.fuel.most;
}
