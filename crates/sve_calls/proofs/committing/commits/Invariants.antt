use Rattle.std.specs.Prelude.{◌+◌}
use Rattle.sve_session.specs.Passes.{IsReady, IsNext}
use Rattle.sve_calls.proofs.committing.commits.Given as goal

abbrev pub invariant-loop-j : goal.invariant-loop-j
invariant-loop-j g l = record { ready : IsReady g.P.Plan.board.table l.pass; next : IsNext l.pass (l.j + 1) }
