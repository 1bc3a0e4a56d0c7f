-- The names of the members so far.
use Rattle.std.proofs.Common.{◌≡◌, take}
use Rattle.sve_iface.specs.Names.{members_of}
use Rattle.sve_iface.proofs.modports.members_of.Given as goal

abbrev pub invariant-members : goal.invariant-members
invariant-members l = l.names ≡ members_of l.words (take l.member-index l.members)
