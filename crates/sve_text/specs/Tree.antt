-- The rows that a tree holds, in order.
use Rattle.std.specs.Prelude.{◌≡◌, List, [], ◌∷◌, ◌++◌}
use Rattle.sve_text.specs.Rows.{Row, count}
use Rattle.sve_text.specs.declared.tree.Tree.{Tree, Leaf, Fork'}

abbrev pub rows_in : Tree → List Row
rows_in Leaf = []
rows_in (Fork' shared left row right height files) = rows_in left ++ row ∷ rows_in right

-- each fork has the number of the files that are there in it
abbrev pub IsCounted : Tree → Type 0
IsCounted Leaf = Unit {0}
IsCounted (Fork' shared left row right height files) = (files ≡ count (rows_in left ++ row ∷ rows_in right)) × IsCounted left × IsCounted right
