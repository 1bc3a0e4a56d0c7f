-- None so far.
use Rattle.std.proofs.Common.{◌≡◌, drop}
use Rattle.sve_choice.specs.Labels.{first_default}
use Rattle.sve_choice.proofs.selection.first_default.Given as goal

abbrev pub invariant-items : goal.invariant-items
invariant-items l = first_default 0 l.items ≡ first_default l.number (drop l.number l.items)
