-- What was done so far, and what is left, is the whole.
use Rattle.std.proofs.Common.{drop}
use Rattle.sve_plan.specs.Plan.{each}
use Rattle.sve_plan.specs.Follows.{Reaches}
use Rattle.sve_unit_scope.specs.Packages.{with_unit_packages}
use Rattle.sve_unit_scope.proofs.packages.add_all_unit_packages.Given as goal

abbrev pub invariant-all : goal.invariant-all
invariant-all g l = Reaches (record { tells = g.W.Look.tells; keeps = g.W.Look.keeps; halted = g.W.Look.halted; stops = g.W.Look.stops; asked = g.W.Look.asked }) l.fn.world l.world l.fuel l.fuel (each (with_unit_packages l.index) l.all l.fn.known) (each (with_unit_packages l.index) (drop l.one-index l.all) l.known)
