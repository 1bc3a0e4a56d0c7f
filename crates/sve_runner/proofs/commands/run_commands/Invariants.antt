use Rattle.sve_board.specs.Log.{largest}
use Rattle.sve_runner.specs.Told.{answers_by}
use Rattle.sve_runner.proofs.Walking.{IsSoFar}
use Rattle.sve_runner.proofs.commands.run_commands.Given as goal

abbrev pub invariant-loop-j : goal.invariant-loop-j
invariant-loop-j g l = IsSoFar (answers_by g.K.Key.Ord.cmp g.K.Keyed.given g.K.Kinds.make g.K.Kinds.answers_over) l.terms g.P.Plan.opening g.P.Plan.table g.P.Plan.board.table l.fn.pass.number (largest l.fn.pass.looks) l.commands l.j l.pass l.records.items
