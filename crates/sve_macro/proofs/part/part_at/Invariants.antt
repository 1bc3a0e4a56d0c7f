use Rattle.std.proofs.Common.{◌-◌, length}
use Rattle.sve_macro.specs.Parts.{depths_of}
use Rattle.sve_macro.proofs.Reading.{IsUnderWay}
use Rattle.sve_macro.proofs.part.part_at.Given as goal

abbrev pub invariant-loop-at : goal.invariant-loop-at
invariant-loop-at l = IsUnderWay l.text l.from l.at l.span (depths_of l.brackets)

abbrev pub decreases-loop-at : goal.decreases-loop-at
decreases-loop-at l = length l.text - l.at
