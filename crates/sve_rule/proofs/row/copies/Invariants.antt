use Rattle.std.proofs.Common.{◌≡◌, Some}
use Rattle.sve_rule.specs.Rows.{line_of, copies}
use Rattle.sve_rule.proofs.row.copies.Given as goal

abbrev pub invariant-copies : goal.invariant-copies
invariant-copies l = line_of l.row ≡ Some (copies l.done l.bits.bits)
