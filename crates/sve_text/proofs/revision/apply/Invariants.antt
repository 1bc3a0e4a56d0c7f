use Rattle.std.proofs.Common.{◌≡◌, drop}
use Rattle.sve_text.specs.Rows.{IsInOrder}
use Rattle.sve_text.specs.Files.{rows_after}
use Rattle.sve_text.specs.Tree.{rows_in, IsCounted}
use Rattle.sve_text.proofs.revision.apply.Given as goal

-- what the rest of the edits leaves of the tree is what all of them leave of the files
abbrev pub invariant-edits : goal.invariant-edits
invariant-edits l = record {
  in_order : IsInOrder (rows_in l.tree);
  counted : IsCounted l.tree;
  leaves : rows_after l.r (rows_in l.tree) (drop l.edit-index l.edits) ≡ rows_after l.r l.fn.files.rows l.edits;
}
