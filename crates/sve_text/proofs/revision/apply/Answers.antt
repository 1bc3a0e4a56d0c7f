use Rattle.std.proofs.Common.{◌≡◌, [], drop, ap, sym, ◌∙◌, subst, arith}
use Rattle.std.proofs.lemmas.List.{drop_all}
use Rattle.sve_text.proofs.Commits.{IsInOrder-edited}
use Rattle.sve_text.proofs.Refused.{rest_from, fit_after}
use Rattle.sve_text.specs.Rows.{RowsFit}
use Rattle.sve_text.specs.Files.{FilesValue, rows_after}
use Rattle.sve_text.specs.Tree.{rows_in}
use Rattle.sve_text.proofs.revision.apply.Goals as goal

pub edits-preserved : goal.edits-preserved
edits-preserved c =
    let kept = c.edits.invariant in
    let edits = c.args.edits.now in
    let i = c.edits.edit-index in
    let edit = c.edit-item.result in
    let rows = rows_in c.edits.tree in
    let left = c.in_ok-tree-2.ensures.rows in
    record {
      in_order = rw left (IsInOrder-edited c.args.r rows edit kept.in_order);
      counted = c.in_ok-tree-2.ensures.counted;
      leaves = rw left (rw (rest_from edits i edit c.edits-test.true c.edit-item.is) at kept.leaves);
    }

-- all edits are taken, and none of them made a text too large
pub invariant_of-result : goal.invariant_of-result
invariant_of-result c =
    let kept = c.edits.invariant in
    let edits = c.args.edits.now in
    let r = c.args.r in
    let old = c.args.files.now.rows in
    let taken : drop c.edits.edit-index edits ≡ [] = drop_all c.edits.edit-index edits (omega arith) in
    let left : rows_in c.edits.tree ≡ rows_after r old edits = sym (ap (rows_after r (rows_in c.edits.tree)) taken) ∙ kept.leaves in
    let fit : RowsFit old = subst (λ (files : FilesValue). RowsFit files.rows) c.files.view_is c.files.invariant.1 in
    (kept.in_order, subst RowsFit (sym left) (fit_after r old edits fit c.requires.not_refused), kept.counted)
