use Rattle.std.proofs.Common.{◌-◌, []}
use Rattle.sve_fault.specs.Counts.{IsFuel}
use Rattle.sve_generate.specs.Loops.{turns, repeated}
use Rattle.sve_generate.specs.Metering.{Comes}
use Rattle.sve_generate.proofs.unrolling.turns.Given as goal

abbrev pub invariant-turns : goal.invariant-turns
invariant-turns g l = IsFuel l.fuel
    × Comes l.fn.fuel l.fuel (turns 4294967296 (g.L.LoopExpressions.goes l.expressions) (g.L.LoopExpressions.steps l.expressions) (repeated l.token l.genvar) [] l.fn.start)
    (turns (4294967296 - l.round) (g.L.LoopExpressions.goes l.expressions) (g.L.LoopExpressions.steps l.expressions) (repeated l.token l.genvar) l.seen.keys l.value)
