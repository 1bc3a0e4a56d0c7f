-- What was done so far, and what is left, is the whole.
use Rattle.std.proofs.Common.{drop}
use Rattle.sve_plan.specs.Plan.{each}
use Rattle.sve_plan.specs.Follows.{Reaches}
use Rattle.sve_look.specs.Questions.{element_in}
use Rattle.sve_body.specs.Items.{instance}
use Rattle.sve_body_instance.proofs.instancing.each_instance.Given as goal

abbrev pub invariant-all : goal.invariant-all
invariant-all g l = Reaches (record { tells = g.W.Look.tells; keeps = g.W.Look.keeps; halted = g.W.Look.halted; stops = g.W.Look.stops; asked = g.W.Look.asked }) l.fn.world l.world l.fuel l.fuel (each (instance g.S.Work.steps l.definition (element_in l.element)) l.all l.fn.work) (each (instance g.S.Work.steps l.definition (element_in l.element)) (drop l.one-index l.all) l.work)
