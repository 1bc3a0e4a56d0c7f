use Rattle.std.proofs.Common.{◌≡◌, ◌+◌, ◌-◌, ◌^◌, ◌≤◌, drop}
use Rattle.sve_types.specs.View.{members_of}
use Rattle.sve_types.specs.Widths.{members_bits, counted}
use Rattle.sve_select.proofs.members.bits_of.Given as goal

abbrev pub invariant-members : goal.invariant-members
invariant-members l = record {
  is_whole : counted (l.total + members_bits (members_of (drop l.member-index l.members))) ≡ counted (members_bits (members_of l.members));
  is_counted : l.total ≤ 2 ^ 64 - 1;
}
