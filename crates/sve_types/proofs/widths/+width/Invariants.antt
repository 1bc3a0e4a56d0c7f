use Rattle.std.proofs.Common.{◌≡◌, ◌+◌, ◌-◌, ◌*◌, ◌^◌, ◌≤◌, drop}
use Rattle.sve_types.specs.View.{form_of, members_of, size_of, form_size, members_size}
use Rattle.sve_types.specs.Widths.{members_bits, counted}
use Rattle.sve_types.proofs.widths.+width.Given as goal

abbrev pub invariant-members_width-members : goal.invariant-members_width-members
invariant-members_width-members l = record {
  is_whole : counted (l.total + members_bits (members_of (drop l.member-index l.members))) ≡ counted (members_bits (members_of l.members));
  is_counted : l.total ≤ 2 ^ 64 - 1;
}

abbrev pub decreases-width : goal.decreases-width
decreases-width l = 3 * size_of l.t.now + 2

abbrev pub decreases-base_width : goal.decreases-base_width
decreases-base_width l = 3 * form_size (form_of l.base.now) + 1

abbrev pub decreases-members_width : goal.decreases-members_width
decreases-members_width l = 3 * members_size (members_of l.members.now)
