use Rattle.sve_calls.specs.SameEdits.{same_edits}
use Rattle.sve_calls.proofs.running.run.Given as goal

-- the plan of this run
abbrev pub ghosts-run_plan : goal.ghosts-run_plan
ghosts-run_plan g a = record { opening = a.files; table = same_edits a.edits.now; board = a.board; most = a.row.most }
