use Rattle.std.proofs.Common.{◌≡◌, ◌≤◌, drop}
use Rattle.sve_fault.specs.Counts.{counted_on}
use Rattle.sve_type_of.specs.Nodes.{members_count, nodes_of_members}
use Rattle.sve_type_count.proofs.written.+count_keyword_type.Given as goal

abbrev pub invariant-count_members-members : goal.invariant-count_members-members
invariant-count_members-members g l = record {
  counts : counted_on l.fuel.used (members_count (g.E.Env.told l.env) (drop l.next-index l.members.items)) ≡ counted_on l.fn.fuel.used (nodes_of_members (g.E.Env.told l.env) l.members);
  most : l.fuel.most ≡ l.fn.fuel.most;
  within : l.fuel.used ≤ l.fuel.most;
}
