-- What was done so far, and what is left, is the whole.
use Rattle.std.proofs.Common.{drop}
use Rattle.sve_plan.specs.Plan.{each}
use Rattle.sve_plan.specs.Follows.{Reaches}
use Rattle.sve_body.specs.Body.{counted_item}
use Rattle.sve_body_block.specs.Parts.{turn_of}
use Rattle.sve_body_block.proofs.walk.+items.Given as goal

abbrev pub invariant-items-all : goal.invariant-items-all
invariant-items-all g l = Reaches (record { tells = g.W.Look.tells; keeps = g.W.Look.keeps; halted = g.W.Look.halted; stops = g.W.Look.stops; asked = g.W.Look.asked }) l.fn.world l.world l.fn.fuel l.fuel (each (counted_item g.S.Work.steps) l.all l.fn.work) (each (counted_item g.S.Work.steps) (drop l.one-index l.all) l.work)

abbrev pub invariant-turns-values : goal.invariant-turns-values
invariant-turns-values g l = Reaches (record { tells = g.W.Look.tells; keeps = g.W.Look.keeps; halted = g.W.Look.halted; stops = g.W.Look.stops; asked = g.W.Look.asked }) l.fn.world l.world l.fn.fuel l.fuel (each (turn_of g.S.Work.steps l.number l.construct) l.values l.fn.work) (each (turn_of g.S.Work.steps l.number l.construct) (drop l.value-index l.values) l.work)
