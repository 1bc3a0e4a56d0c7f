-- None so far.
use Rattle.std.proofs.Common.{◌≡◌, drop}
use Rattle.std.specs.List.{list_any}
use Rattle.sve_use.specs.Use.{is_member_select}
use Rattle.sve_use.proofs.head.has_member_select.Given as goal

abbrev pub invariant-loop-select : goal.invariant-loop-select
invariant-loop-select l = list_any is_member_select l.selects ≡ list_any is_member_select (drop l.select-index l.selects)
