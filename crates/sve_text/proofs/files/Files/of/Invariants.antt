use Rattle.std.proofs.Common.{◌≡◌, [], length}
use Rattle.sve_text.specs.Rows.{IsInOrder, RowsFit}
use Rattle.sve_text.specs.Files.{opening_rows, TextsFit}
use Rattle.sve_text.specs.Tree.{rows_in, IsCounted}
use Rattle.sve_text.proofs.files.Files.of.Given as goal

-- what the rest of the files makes of the tree is what all of them make
abbrev pub invariant-files : goal.invariant-files
invariant-files l = record {
  in_order : IsInOrder (rows_in l.tree);
  in_limit : RowsFit (rows_in l.tree);
  counted : IsCounted l.tree;
  rest_in_limit : TextsFit l.name-iterator.rest.items;
  rest_len : l.name-iterator.rest.len ≡ length l.name-iterator.rest.items;
  leaves : opening_rows (rows_in l.tree) l.name-iterator.rest.items ≡ opening_rows [] l.fn.files.items;
}
