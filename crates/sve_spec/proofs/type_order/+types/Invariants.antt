use Rattle.std.proofs.Common.{◌≡◌, ◌+◌, ◌*◌}
use Rattle.sve_types.specs.View.{form_of, members_of, size_of, form_size, members_size}
use Rattle.sve_spec.specs.Trees.{member_tree}
use Rattle.sve_spec.proofs.TreeOrders.{from_place}
use Rattle.sve_spec.proofs.type_order.+types.Given as goal

abbrev pub invariant-members_order-members : goal.invariant-members_order-members
invariant-members_order-members l = from_place member_tree l.place l.members l.other ≡ from_place member_tree 0 l.members l.other

abbrev pub decreases-type_order : goal.decreases-type_order
decreases-type_order l = 3 * size_of l.ty.now + 2

abbrev pub decreases-form_order : goal.decreases-form_order
decreases-form_order l = 3 * form_size (form_of l.base.now) + 1

abbrev pub decreases-members_order : goal.decreases-members_order
decreases-members_order l = 3 * members_size (members_of l.members.now)
