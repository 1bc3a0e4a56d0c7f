use Rattle.std.proofs.Common.{◌≡◌, ◌≤◌, drop}
use Rattle.sve_fault.specs.Counts.{counted_on}
use Rattle.sve_type_rule.specs.Ranges.{dimensioned}
use Rattle.sve_env.specs.Nodes.{dimension_count}
use Rattle.sve_simple_type.specs.Simple.{ranges_behind}
use Rattle.sve_simple_type.proofs.dimensions.ranges.Given as goal

abbrev pub invariant-dimensions : goal.invariant-dimensions
invariant-dimensions g l = record {
  rest_is_whole : ranges_behind (g.E.Env.told l.env) (dimensioned l.before) (drop l.next-index l.dimensions) ≡ ranges_behind (g.E.Env.told l.env) (dimensioned l.fn.before) l.dimensions;
  counts : counted_on l.fuel.used (dimension_count (g.E.Env.told l.env) (drop l.next-index l.dimensions)) ≡ counted_on l.fn.fuel.used (dimension_count (g.E.Env.told l.env) l.dimensions);
  most : l.fuel.most ≡ l.fn.fuel.most;
  within : l.fuel.used ≤ l.fuel.most;
}
