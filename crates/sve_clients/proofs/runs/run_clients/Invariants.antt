use Rattle.sve_clients.proofs.runs.run_clients.Given as goal

-- the plan of this run
abbrev pub ghosts-run_plan : goal.ghosts-run_plan
ghosts-run_plan g a = record { opening = a.files; table = g.C.Client.edits a.client.now; board = a.board; most = a.most }
