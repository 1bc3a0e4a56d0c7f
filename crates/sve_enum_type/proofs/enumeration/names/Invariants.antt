use Rattle.std.proofs.Common.{◌≡◌, ◌≤◌, drop}
use Rattle.sve_fault.specs.Counts.{counted_on}
use Rattle.sve_enum_type.specs.Enumerations.{listing, names_behind}
use Rattle.sve_enum_type.specs.Nodes.{name_count}
use Rattle.sve_enum_type.proofs.enumeration.names.Given as goal

abbrev pub invariant-names : goal.invariant-names
invariant-names g l = record {
  rest_is_whole : names_behind (g.E.Env.told l.env) l.base (listing l.before) (drop l.next-index l.written) ≡ names_behind (g.E.Env.told l.env) l.base (listing l.fn.before) l.written;
  counts : counted_on l.fuel.used (name_count (g.E.Env.told l.env) (drop l.next-index l.written)) ≡ counted_on l.fn.fuel.used (name_count (g.E.Env.told l.env) l.written);
  most : l.fuel.most ≡ l.fn.fuel.most;
  within : l.fuel.used ≤ l.fuel.most;
}
