use Rattle.std.proofs.Common.{◌≡◌, ◌≤◌, drop}
use Rattle.sve_fault.specs.Counts.{counted_on}
use Rattle.sve_type_rule.specs.Members.{membered}
use Rattle.sve_type_of.specs.TypeOf.{members_behind, members_of_structure}
use Rattle.sve_type_of.specs.Nodes.{members_count, nodes_of_members}
use Rattle.sve_type_of.proofs.written.+written.Given as goal

abbrev pub invariant-members-members : goal.invariant-members-members
invariant-members-members g l = record {
  rest_is_whole : members_behind (g.E.Env.told l.env) (membered l.before) (drop l.next-index l.written.items) ≡ members_of_structure (g.E.Env.told l.env) (membered l.fn.before) l.written;
  counts : counted_on l.fuel.used (members_count (g.E.Env.told l.env) (drop l.next-index l.written.items)) ≡ counted_on l.fn.fuel.used (nodes_of_members (g.E.Env.told l.env) l.written);
  most : l.fuel.most ≡ l.fn.fuel.most;
  within : l.fuel.used ≤ l.fuel.most;
}
