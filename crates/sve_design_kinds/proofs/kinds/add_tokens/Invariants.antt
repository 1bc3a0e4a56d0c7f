-- What was done so far, and what is left, is the whole.
use Rattle.std.proofs.Common.{drop}
use Rattle.sve_plan.specs.Plan.{each}
use Rattle.sve_plan.specs.Follows.{Reaches}
use Rattle.sve_design_kinds.specs.Kinds.{with_token}
use Rattle.sve_design_kinds.proofs.kinds.add_tokens.Given as goal

abbrev pub invariant-tokens : goal.invariant-tokens
invariant-tokens g l = Reaches (record { tells = g.W.Look.tells; keeps = g.W.Look.keeps; halted = g.W.Look.halted; stops = g.W.Look.stops; asked = g.W.Look.asked }) l.fn.world l.world l.fuel l.fuel (each (with_token l.index l.words) l.tokens l.fn.known) (each (with_token l.index l.words) (drop l.token-index l.tokens) l.known)
