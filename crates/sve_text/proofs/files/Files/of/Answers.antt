use Rattle.std.proofs.Common.{arith}
use Rattle.std.proofs.lemmas.List.Elements.{All-head, All-tail}
use Rattle.sve_text.specs.Rows.{IsInLimit}
use Rattle.sve_text.proofs.Puts.{IsInOrder-put_row, RowsFit-put_row}
use Rattle.sve_text.proofs.files.Files.of.Goals as goal

pub files-preserved : goal.files-preserved
files-preserved c =
    let kept = c.files.invariant in
    let first = c.in-Some.ensures.steps.0 in
    let put = c.in_ok-tree.ensures.rows in
    let fit = rw first at kept.rest_in_limit in
    let len = rw first at kept.rest_len in
    record {
      in_order = rw put (IsInOrder-put_row _ _ kept.in_order);
      in_limit = rw put (RowsFit-put_row _ _ (All-head (λ file. IsInLimit file.1) _ _ fit) kept.in_limit);
      counted = c.in_ok-tree.ensures.counted;
      rest_in_limit = All-tail (λ file. IsInLimit file.1) _ _ fit;
      rest_len = omega arith;
      leaves = rw put (rw first at kept.leaves);
    }
