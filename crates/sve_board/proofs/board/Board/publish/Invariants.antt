use Rattle.sve_board.proofs.board.Board.publish.Given as goal

-- the entry of this call
abbrev pub ghosts-publish_named : goal.ghosts-publish_named
ghosts-publish_named a = record { entry = record { client = a.client; command = a.command } }
