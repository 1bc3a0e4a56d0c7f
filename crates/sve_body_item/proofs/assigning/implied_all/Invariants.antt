-- What was done so far, and what is left, is the whole.
use Rattle.std.proofs.Common.{drop}
use Rattle.sve_plan.specs.Plan.{each}
use Rattle.sve_plan.specs.Follows.{Reaches}
use Rattle.sve_body.specs.Items.{implied}
use Rattle.sve_body_item.proofs.assigning.implied_all.Given as goal

abbrev pub invariant-tokens : goal.invariant-tokens
invariant-tokens g l = Reaches (record { tells = g.W.Look.tells; keeps = g.W.Look.keeps; halted = g.W.Look.halted; stops = g.W.Look.stops; asked = g.W.Look.asked }) l.fn.world l.world l.fuel l.fuel (each (implied g.S.Work.steps) l.tokens l.fn.work) (each (implied g.S.Work.steps) (drop l.token-index l.tokens) l.work)
