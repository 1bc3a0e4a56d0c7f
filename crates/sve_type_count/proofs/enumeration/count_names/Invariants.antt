use Rattle.std.proofs.Common.{◌≡◌, ◌≤◌, drop}
use Rattle.sve_fault.specs.Counts.{counted_on}
use Rattle.sve_enum_type.specs.Nodes.{name_count}
use Rattle.sve_type_count.proofs.enumeration.count_names.Given as goal

abbrev pub invariant-names : goal.invariant-names
invariant-names g l = record {
  counts : counted_on l.fuel.used (name_count (g.E.Env.told l.env) (drop l.name-index l.names)) ≡ counted_on l.fn.fuel.used (name_count (g.E.Env.told l.env) l.names);
  most : l.fuel.most ≡ l.fn.fuel.most;
  within : l.fuel.used ≤ l.fuel.most;
}
