-- The copies so far were added.
use Rattle.std.proofs.Common.{◌≡◌, ◌++◌, take}
use Rattle.sve_front.proofs.reading.add_copies.Given as goal

abbrev pub invariant-loop-diag : goal.invariant-loop-diag
invariant-loop-diag l = l.diags.items ≡ l.initial.diags.items ++ take l.diag-index l.more
