-- What was done so far, and what is left, is the whole.
use Rattle.std.proofs.Common.{drop}
use Rattle.std.specs.List.{range_with_len}
use Rattle.sve_plan.specs.Plan.{each}
use Rattle.sve_plan.specs.Follows.{Reaches}
use Rattle.sve_unit_scope.specs.Elements.{element_of}
use Rattle.sve_unit_scope.proofs.elements.elements_before.Given as goal

abbrev pub invariant-chunks : goal.invariant-chunks
invariant-chunks g l = Reaches (record { tells = g.W.Look.tells; keeps = g.W.Look.keeps; halted = g.W.Look.halted; stops = g.W.Look.stops; asked = g.W.Look.asked }) l.fn.world l.world l.fuel l.fuel (each (element_of l.file) (range_with_len 0 l.end) l.fn.elements.items) (each (element_of l.file) (drop l.chunk (range_with_len 0 l.end)) l.elements.items)
