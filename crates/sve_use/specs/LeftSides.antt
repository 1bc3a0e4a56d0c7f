-- The names that the left sides of assignments use, in the order of the text (IEEE 1800-2017, 10.3 and 10.4).
use Rattle.std.specs.Global.{Vec}
use Rattle.std.specs.Prelude.{ℕ, List, [], ◌∷◌, ◌++◌}
use Rattle.sve_tree.specs.declared.expression.Select.{Select}
use Rattle.sve_tree.specs.declared.statement.LeftSide.{LeftSide, Row_of-LeftSide, end_of-LeftSide, more_of-LeftSide}
use Rattle.sve_tree.specs.declared.statement.LeftSide.TheVariants as is_left_side
use Rattle.sve_use.specs.Use.{Use, left_use}
use Rattle.sve_use.specs.Uses.{uses_of_selects}

-- a plain name with selects, and the names in these
abbrev pub selected_uses : ℕ → Vec Select → List Use
selected_uses name selects = left_use name selects.items ∷ uses_of_selects selects

unfoldable mutual
  pub left_side_uses : LeftSide → List Use
  left_side_uses (is_left_side.Name name selects) = selected_uses name selects
  left_side_uses (is_left_side.Concatenation' opening _ sides commas closing) = left_side_row sides

  pub left_side_row : {n : _} → Row_of-LeftSide n → List Use
  left_side_row end_of-LeftSide = []
  left_side_row (more_of-LeftSide side rest) = left_side_uses side ++ left_side_row rest
