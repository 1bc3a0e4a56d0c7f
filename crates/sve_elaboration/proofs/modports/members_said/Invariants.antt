-- The members so far are said.
use Rattle.std.proofs.Common.{◌≡◌, take}
use Rattle.std.specs.List.{fold}
use Rattle.sve_elaboration.specs.Modports.{member_said}
use Rattle.sve_elaboration.proofs.modports.members_said.Given as goal

abbrev pub invariant-members : goal.invariant-members
invariant-members l = l.contents ≡ fold (member_said l.words l.own) l.fn.contents (take l.member-index l.members)
