use Rattle.std.proofs.Common.{◌≡◌, take}
use Rattle.sve_key.proofs.same.same_table.Given as goal

abbrev pub invariant-defs : goal.invariant-defs
invariant-defs l = take l.i l.table ≡ take l.i l.other
