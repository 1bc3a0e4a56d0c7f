use Rattle.std.proofs.Common.{take}
use Rattle.sve_text.proofs.Turns.{Stands}
use Rattle.sve_text.proofs.standing.standing_of.Given as goal

-- what the edits so far leave of the file
abbrev pub invariant-earlier : goal.invariant-earlier
invariant-earlier l = Stands l.files.rows (take l.edit-index l.earlier) l.name l.length l.is_named
