use Rattle.std.proofs.Common.{◌≡◌, ◌+◌, ◌*◌, drop}
use Rattle.sve_types.specs.View.{form_of, members_of, size_of, form_size, members_size}
use Rattle.sve_types.specs.States.{a_member_has_four_states}
use Rattle.sve_types.proofs.states.+states.Given as goal

abbrev pub invariant-a_member_has_four_states-members : goal.invariant-a_member_has_four_states-members
invariant-a_member_has_four_states-members l = a_member_has_four_states (members_of (drop l.member-index l.members)) ≡ a_member_has_four_states (members_of l.members)

abbrev pub decreases-four_state : goal.decreases-four_state
decreases-four_state l = 3 * size_of l.t.now + 2

abbrev pub decreases-base_has_four_states : goal.decreases-base_has_four_states
decreases-base_has_four_states l = 3 * form_size (form_of l.base.now) + 1

abbrev pub decreases-a_member_has_four_states : goal.decreases-a_member_has_four_states
decreases-a_member_has_four_states l = 3 * members_size (members_of l.members.now)
