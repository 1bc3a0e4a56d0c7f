-- Those so far.
use Rattle.std.proofs.Common.{◌≡◌, take}
use Rattle.sve_diagnostics.proofs.gathering.copies.Given as goal

abbrev pub invariant-told : goal.invariant-told
invariant-told l = l.diags.items ≡ take l.diag-index l.told
