use Rattle.std.proofs.Common.{◌≡◌, ◌+◌, ◌*◌, ◌++◌, drop}
use Rattle.sve_types.specs.View.{form_of, members_of, size_of, form_size, members_size}
use Rattle.sve_types.specs.TypeText.{members_text}
use Rattle.sve_types.proofs.printing.+printing.Given as goal

abbrev pub invariant-append_members-members : goal.invariant-append_members-members
invariant-append_members-members l = l.text.items ++ members_text (members_of (drop l.name-index l.members)) ≡ l.initial.text.items ++ members_text (members_of l.members)

abbrev pub decreases-append_type : goal.decreases-append_type
decreases-append_type l = 3 * size_of l.t.now + 2

abbrev pub decreases-append_base : goal.decreases-append_base
decreases-append_base l = 3 * form_size (form_of l.base.now) + 1

abbrev pub decreases-append_members : goal.decreases-append_members
decreases-append_members l = 3 * members_size (members_of l.members.now)
