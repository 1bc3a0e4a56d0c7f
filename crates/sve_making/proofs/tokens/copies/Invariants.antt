use Rattle.std.proofs.Common.{◌≡◌, take}
use Rattle.sve_making.proofs.tokens.copies.Given as goal

abbrev pub invariant-copies : goal.invariant-copies
invariant-copies l = l.all.items ≡ take l.diag-index l.diags
