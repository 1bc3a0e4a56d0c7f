use Rattle.std.proofs.Common.{◌≡◌, drop}
use Rattle.sve_types.specs.View.{members_of}
use Rattle.sve_select.specs.Members.{member_of}
use Rattle.sve_select.proofs.members.member_of.Given as goal

abbrev pub invariant-members : goal.invariant-members
invariant-members l = member_of l.name (members_of (drop l.i l.members)) ≡ member_of l.name (members_of l.members)
