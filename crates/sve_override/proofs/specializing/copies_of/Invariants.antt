-- As many are copied as were gone over.
use Rattle.std.proofs.Common.{◌≡◌, take}
use Rattle.sve_override.proofs.specializing.copies_of.Given as goal

abbrev pub invariant-overrides : goal.invariant-overrides
invariant-overrides l = l.copies.items ≡ take l.next-index l.overrides
