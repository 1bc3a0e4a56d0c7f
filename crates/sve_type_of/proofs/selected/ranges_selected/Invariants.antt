-- The dimensions so far, and behind them those that are left, are all of them.
use Rattle.std.proofs.Common.{◌≡◌, ◌≤◌, drop}
use Rattle.sve_fault.specs.Counts.{counted_on}
use Rattle.sve_type_rule.specs.Ranges.{dimensioned}
use Rattle.sve_type_of.specs.Selected.{bound_count, ranges_selected}
use Rattle.sve_type_of.proofs.selected.ranges_selected.Given as goal

abbrev pub invariant-selects : goal.invariant-selects
invariant-selects g l = record {
  rest_is_whole : ranges_selected (g.E.Env.told l.env) l.name (dimensioned l.before) (drop l.next-index l.selects) ≡ ranges_selected (g.E.Env.told l.env) l.name (dimensioned l.fn.before) l.selects;
  counts : counted_on l.fuel.used (bound_count (g.E.Env.told l.env) (drop l.next-index l.selects)) ≡ counted_on l.fn.fuel.used (bound_count (g.E.Env.told l.env) l.selects);
  most : l.fuel.most ≡ l.fn.fuel.most;
  within : l.fuel.used ≤ l.fuel.most;
}
