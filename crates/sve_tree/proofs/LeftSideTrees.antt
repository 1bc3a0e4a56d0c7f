-- The tree of each variant: left sides.
use Rattle.std.specs.Global.{Vec}
use Rattle.std.proofs.Common.{ℕ, List, ◌∷◌, map, ◌≡◌, refl, ap, ◌∙◌}
use Rattle.sve_grammar.specs.Reading.{Tree, leaf, left, right}
use Rattle.sve_tree.specs.Shape.{◌▸◌, repeated_tree, first_tree, further_tree, first_of, further_of}
use Rattle.sve_tree.proofs.Shapes.{first_map, further_map}
use Rattle.sve_tree.specs.declared.expression.Select.{Select}
use Rattle.sve_tree.specs.Expressions.{select_tree}
use Rattle.sve_tree.specs.declared.statement.LeftSide.{LeftSide}
use Rattle.sve_tree.specs.Statements.{left_side_tree, left_concatenation_tree, left_side_trees}
use Rattle.sve_tree.specs.declared.statement.LeftConcatenation.{LeftConcatenation, Row_of-LeftSide, end_of-LeftSide, items-the_row-LeftSide, more_of-LeftSide}
use Rattle.sve_tree.specs.declared.statement.LeftSide.TheBlock.{hidden-the_row-LeftSide-0, items_hidden-the_row-LeftSide-0}
use Rattle.sve_tree.specs.declared.statement.LeftSide.TheVariants as is_left_side

-- ---- rows

left_side_trees_are : {n : _} (row : Row_of-LeftSide n) → left_side_trees row ≡ map left_side_tree (items-the_row-LeftSide n row)
unfolding left_side_tree
left_side_trees_are end_of-LeftSide = refl
left_side_trees_are (more_of-LeftSide item rest) = ap (λ (ts : List Tree). left_side_tree item ∷ ts) (left_side_trees_are rest)

left_side_trees_of : (xs : Vec LeftSide) → left_side_trees (hidden-the_row-LeftSide-0 xs) ≡ map left_side_tree xs.items
left_side_trees_of xs = left_side_trees_are (hidden-the_row-LeftSide-0 xs) ∙ ap (map left_side_tree) (items_hidden-the_row-LeftSide-0 xs)

pub left_sides_first : (xs : Vec LeftSide) → first_of (left_side_trees (hidden-the_row-LeftSide-0 xs)) ≡ first_tree left_side_tree xs.items
left_sides_first xs = ap first_of (left_side_trees_of xs) ∙ first_map left_side_tree xs.items

pub left_sides_further : (xs : Vec LeftSide) (ss : List ℕ) → further_of (left_side_trees (hidden-the_row-LeftSide-0 xs)) ss ≡ further_tree left_side_tree leaf xs.items ss
left_sides_further xs ss = ap (λ (ts : List Tree). further_of ts ss) (left_side_trees_of xs) ∙ further_map left_side_tree leaf xs.items ss

-- ---- left side

pub name_left_side : (name : ℕ) (selects : Vec Select) → left_side_tree (is_left_side.Name name selects) ≡ left (leaf name ▸ repeated_tree select_tree selects.items)
unfolding left_side_tree
name_left_side name selects = refl

pub concatenation_left_side : (concatenation : LeftConcatenation) → left_side_tree (is_left_side.Concatenation concatenation) ≡ right (left_concatenation_tree concatenation)
unfolding left_side_tree
concatenation_left_side concatenation = rw (left_sides_first concatenation.sides.items, left_sides_further concatenation.sides.items concatenation.sides.separators.items) refl
