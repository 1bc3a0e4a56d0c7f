use Rattle.std.proofs.Common.{◌≡◌, take}
use Rattle.sve_same.proofs.same.same_items.Given as goal

abbrev pub invariant-items : goal.invariant-items
invariant-items g l = take l.i l.items ≡ take l.i l.others
