-- The order of trees of numbers (own), by which values are ordered that are told apart by such a tree.
use Rattle.std.specs.Prelude.{◌≡◌, ◌↔◌}
use Rattle.std.specs.Cmp.{IsTotalOrder}
use Rattle.std.specs.Ordering.{nat_cmp, ordering_then}
use Rattle.std.specs.declared.cmp.Ordering.{Ordering}
use Rattle.std.specs.declared.cmp.Ordering.TheVariants.{Less, Equal, Greater}
use base.Stored.{Gv, gnil, gnum, gcons}

-- the empty tree, then the numbers, then the pairs of trees, by the first and then by the second
abbrev pub tree_cmp : Gv → Gv → Ordering
tree_cmp gnil gnil = Equal
tree_cmp gnil (gnum n) = Less
tree_cmp gnil (gcons c d) = Less
tree_cmp (gnum m) gnil = Greater
tree_cmp (gnum m) (gnum n) = nat_cmp m n
tree_cmp (gnum m) (gcons c d) = Less
tree_cmp (gcons a b) gnil = Greater
tree_cmp (gcons a b) (gnum n) = Greater
tree_cmp (gcons a b) (gcons c d) = ordering_then (tree_cmp a c) (tree_cmp b d)

-- any two trees are in order, and equal only where they are one
abbrev pub TreesAreOrdered : Type 0
TreesAreOrdered = IsTotalOrder tree_cmp × ((x y : Gv) → (tree_cmp x y ≡ Equal) ↔ (x ≡ y))
