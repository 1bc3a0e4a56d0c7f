-- The loop over the sides of a concatenation on the left.
use Rattle.std.proofs.Common.{◌≡◌, ◌<◌, ◌≤◌, ℕ, ◌+◌, List, [], ◌++◌, length, drop, get_or, refl, ap, ◌∙◌}
use Rattle.std.specs.List.{flat_map}
use Rattle.std.proofs.lemmas.List.{drop_more}
use Rattle.std.proofs.Math.ListN.{drop_of_length-le}
use Rattle.sve_tree.specs.declared.statement.LeftConcatenation.{LeftConcatenation}
use Rattle.sve_tree.specs.declared.statement.LeftSide.{LeftSide, Row_of-LeftSide, end_of-LeftSide, items-the_row-LeftSide, more_of-LeftSide}
use Rattle.sve_tree.specs.declared.statement.LeftSide.TheVariants as is_left_side
use Rattle.sve_tree.specs.declared.statement.LeftSide.TheBlock.{hidden-the_row-LeftSide-0, items_hidden-the_row-LeftSide-0}
use Rattle.sve_use.specs.Use.{Use}
use Rattle.sve_use.specs.LeftSides.{left_side_row, left_side_uses}

row_is : {n : _} (row : Row_of-LeftSide n) → left_side_row row ≡ flat_map left_side_uses (items-the_row-LeftSide n row)
unfolding left_side_uses
row_is end_of-LeftSide = refl
row_is (more_of-LeftSide side rest) = ap (λ (us : List Use). left_side_uses side ++ us) (row_is rest)

pub of_sides : (concatenation : LeftConcatenation) → left_side_uses (is_left_side.Concatenation concatenation) ≡ flat_map left_side_uses concatenation.sides.items.items
unfolding left_side_uses
of_sides concatenation = row_is (hidden-the_row-LeftSide-0 concatenation.sides.items) ∙ ap (flat_map left_side_uses) (items_hidden-the_row-LeftSide-0 concatenation.sides.items)

pub side_step : (xs : List LeftSide) (i : ℕ) (x : LeftSide) → i < length xs → x ≡ get_or xs i x → flat_map left_side_uses (drop i xs) ≡ left_side_uses x ++ flat_map left_side_uses (drop (i + 1) xs)
side_step xs i x h e = rw (drop_more xs i x h, ← e) refl

pub side_end : (xs : List LeftSide) (i : ℕ) → length xs ≤ i → flat_map left_side_uses (drop i xs) ≡ []
side_end xs i h = rw (drop_of_length-le xs h) refl
