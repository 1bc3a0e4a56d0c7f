use Rattle.sve_text.proofs.Turns.{Passes}
use Rattle.sve_text.proofs.refusing.refusal.Given as goal

-- the edits so far pass, and behind them the rest decides
abbrev pub invariant-edits : goal.invariant-edits
invariant-edits l = Passes l.files.rows l.edits l.i l.there
