use Rattle.std.proofs.Common.{ℤ, [], List, Option, Result, Err}
use Rattle.sve_fault.specs.declared.fault.Fault.{Fault}
use Rattle.sve_plan.specs.Plan.{Counted}
use Rattle.sve_generate.specs.Loops.{repeated, turns}
use Rattle.sve_generate.proofs.Turns.{started}
use Rattle.sve_generate.proofs.unrolling.unroll.Goals as goal

pub returns-in-Ok : goal.returns-in-Ok
returns-in-Ok g c =
    let go : Option ℤ → Counted (Result (List ℤ) Fault) = turns 4294967296 (g.L.LoopExpressions.goes c.args.expressions.now) (g.L.LoopExpressions.steps c.args.expressions.now) (repeated c.args.token c.args.genvar.now) [] in
    started (g.L.LoopExpressions.starts c.args.expressions.now) (λ fault. (0, Err fault)) go c.args.fuel.now c.start.new.fuel c.turns.new.fuel c.in_ok-fault.field-0 c.in-Ok.start c.turns.result c.in-Ok.is c.in_ok-fault.ensures c.turns.ensures
