use Rattle.std.proofs.Common.{◌∙◌, sym, ap}
use Rattle.std.proofs.lemmas.Bool.{false≢true}
use Rattle.std.specs.Option.{is_some}
use Rattle.sve_bytes.proofs.StageIndices.{whole_ends}
use Rattle.sve_bytes.proofs.path_reading.after_whole.Goals as goal
use Rattle.sve_bytes.proofs.path_reading.after_whole.Goals.{else-byte-eq91-via-then-byte-eq91+else-is_none, else-byte-eq91-via-else-byte-eq91}

pub returns : goal.returns
returns c = λ so_far h.
    whole_ends so_far c.args.found.name.now c.args.found.index c.args.byte h.0 h.1
    (elim c.else-byte-eq91.branch [
      | else-byte-eq91-via-then-byte-eq91+else-is_none w ↦ λ _ none. false≢true (ap is_some (sym none) ∙ w.if-is_none.ensures)
      | else-byte-eq91-via-else-byte-eq91 w ↦ λ same _. absurd (w.if-byte-eq91.false same)
    ])
