use Rattle.std.proofs.Common.{◌≡◌, ◌++◌, take}
use Rattle.sve_prep.proofs.name.with_copies.Given as goal

abbrev pub invariant-loop-other : goal.invariant-loop-other
invariant-loop-other l = l.all.items ≡ l.fn.names.items ++ take l.other-index l.others
