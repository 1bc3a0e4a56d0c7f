use Rattle.std.proofs.Common.{◌-◌, length}
use Rattle.sve_macro.proofs.Lists.{IsFound}
use Rattle.sve_macro.proofs.actual_list.actuals.Given as goal

abbrev pub invariant-parts : goal.invariant-parts
invariant-parts l = IsFound l.found.items l.at l.text l.from

abbrev pub decreases-parts : goal.decreases-parts
decreases-parts l = length l.text - l.at
