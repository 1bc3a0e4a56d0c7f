use Rattle.std.proofs.Common.{◌≡◌, take}
use Rattle.sve_history.proofs.entry.Entry.of.Given as goal

abbrev pub invariant-copies : goal.invariant-copies
invariant-copies l = l.copies.items ≡ take l.edit-index l.edits
