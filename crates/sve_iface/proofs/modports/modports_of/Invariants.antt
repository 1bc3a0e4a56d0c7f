-- The modports of the items so far.
use Rattle.std.proofs.Common.{◌≡◌, take}
use Rattle.sve_iface.specs.Names.{modports_of}
use Rattle.sve_iface.proofs.modports.modports_of.Given as goal

abbrev pub invariant-items : goal.invariant-items
invariant-items l = l.all ≡ modports_of l.words (take l.item-index l.items)
