use Rattle.std.proofs.Common.{◌≡◌, ◌∙◌, ap, sym, take}
use Rattle.std.specs.Prelude.{bytes_eq}
use Rattle.sve_text.specs.Rows.{text_of}
use Rattle.sve_text.specs.Files.{name_of, rows_after}
use Rattle.sve_text.proofs.Turns.{stands_edited, stands_passed}
use Rattle.sve_text.proofs.standing.standing_of.Goals as goal
use Rattle.sve_text.proofs.standing.standing_of.Goals.{then-eq, else-eq}

pub earlier-preserved : goal.earlier-preserved
earlier-preserved c =
    let i = c.earlier.edit-index in
    let edits = c.args.earlier.now in
    let name = c.args.name.now in
    let e = c.edit-item.result in
    let rows = c.args.files.now.rows in
    let tested : c.eq.result ≡ bytes_eq name (name_of e) = c.eq.ensures ∙ ap (bytes_eq name) c.name.ensures in
    elim c.if-eq.branch [
      | then-eq w ↦
          rw w.is_named-is (stands_edited rows edits i e name c.if-eq.length c.earlier-test.true c.edit-item.is c.requires (sym tested ∙ w.if-eq.true)
          (w.length-is ∙ w.length_after-length.ensures (text_of (rows_after 0 rows (take i edits)) name) c.earlier.invariant.length_is))
      | else-eq w ↦
          rw w.is_named-is (rw w.length-is (stands_passed rows edits i e name c.earlier.length c.earlier.is_named c.earlier-test.true c.edit-item.is (sym tested ∙ w.if-eq.false) c.earlier.invariant))
    ]
