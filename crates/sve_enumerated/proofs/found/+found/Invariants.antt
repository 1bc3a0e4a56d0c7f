-- What is found in the members that are left is what is found in all, since it is in none of those before them.
use Rattle.std.proofs.Common.{◌≡◌, ◌+◌, ◌*◌, drop}
use Rattle.sve_types.specs.View.{members_of, members_size, size_of}
use Rattle.sve_enumerated.specs.Found.{in_members}
use Rattle.sve_enumerated.proofs.found.+found.Given as goal

abbrev pub invariant-in_members-members : goal.invariant-in_members-members
invariant-in_members-members l = in_members l.file l.chunk l.token (members_of (drop l.member-index l.members)) ≡ in_members l.file l.chunk l.token (members_of l.members)

abbrev pub decreases-enumeration_in : goal.decreases-enumeration_in
decreases-enumeration_in l = 2 * size_of l.ty.now + 1

abbrev pub decreases-in_members : goal.decreases-in_members
decreases-in_members l = 2 * members_size (members_of l.members.now)
