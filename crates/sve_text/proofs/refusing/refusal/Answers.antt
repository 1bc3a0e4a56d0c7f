use Rattle.std.proofs.Common.{◌≡◌, ◌∙◌, ap, sym, subst, length, take, Some, None}
use Rattle.std.specs.Prelude.{option_map}
use Rattle.sve_text.specs.Rows.{text_of, stamp_of, IsInOrder}
use Rattle.sve_text.specs.Files.{FilesValue, rows_after}
use Rattle.sve_text.specs.Refusals.{name_file, reason_behind}
use Rattle.sve_text.proofs.Turns.{judged, passes_more, refused_here}
use Rattle.sve_text.proofs.refusing.refusal.Goals as goal

pub returns-in-Some : goal.returns-in-Some
returns-in-Some c =
    let rows = c.args.files.now.rows in
    let earlier = take c.edits.i c.args.edits.now in
    let e = c.index-edits-i.result in
    let told = c.standing_of-before.result in
    let before = c.standing_of-before.ensures in
    let found : reason_behind rows earlier e ≡ Some c.in-Some.why =
    sym (judged rows earlier e told.is_named told.stamp told.length c.edits.there
    (before.named ∙ ap (name_file earlier) c.name.ensures)
    (before.stamp ∙ ap (stamp_of rows) c.name.ensures)
    (before.length ∙ ap (λ name. option_map length (text_of (rows_after 0 rows earlier) name)) c.name.ensures)
    c.edits.invariant.there_is)
    ∙ sym c.reason.ensures ∙ c.in-Some.is in
    sym (refused_here rows c.args.edits.now c.edits.i c.edits.there e c.in-Some.why c.edits-test.true c.index-edits-i.is c.edits.invariant found)

pub edits-preserved : goal.edits-preserved
edits-preserved c =
    let rows = c.args.files.now.rows in
    let earlier = take c.edits.i c.args.edits.now in
    let e = c.index-edits-i.result in
    let told = c.standing_of-before.result in
    let before = c.standing_of-before.ensures in
    let bytes = before.length ∙ ap (λ name. option_map length (text_of (rows_after 0 rows earlier) name)) c.name.ensures in
    let none : reason_behind rows earlier e ≡ None =
    sym (judged rows earlier e told.is_named told.stamp told.length c.edits.there
    (before.named ∙ ap (name_file earlier) c.name.ensures)
    (before.stamp ∙ ap (stamp_of rows) c.name.ensures)
    bytes
    c.edits.invariant.there_is)
    ∙ sym c.reason.ensures ∙ c.in_default.is in
    passes_more rows c.args.edits.now c.edits.i c.edits.there c.count_after-there.result e c.standing_of-before.result.length
    (subst (λ (files : FilesValue). IsInOrder files.rows) c.files.view_is c.files.invariant.0) c.edits-test.true c.index-edits-i.is c.edits.invariant none bytes c.count_after-there.ensures
