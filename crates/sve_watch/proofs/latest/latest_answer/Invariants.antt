use Rattle.sve_watch.proofs.latest.latest_answer.Given as goal

-- the call is handed this pass
abbrev pub ghosts-looking_answer : goal.ghosts-looking_answer
ghosts-looking_answer g a = record { pass = a.pass.now }
