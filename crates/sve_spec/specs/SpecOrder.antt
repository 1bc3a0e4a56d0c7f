-- The order of specializations, by their trees (own).
use Rattle.std.specs.Cmp.{IsTotalOrder, on_total}
use Rattle.std.specs.Ordering.{on}
use Rattle.std.specs.declared.cmp.Ordering.{Ordering}
use Rattle.sve_bytes.specs.TreeOrder.{tree_cmp}
use Rattle.sve_bytes.proofs.TreesAreOrdered.{trees_total}
use Rattle.sve_spec.specs.declared.spec.Spec.{Spec}
use Rattle.sve_spec.specs.Trees.{spec_tree}

abbrev pub spec_cmp : Spec → Spec → Ordering
spec_cmp = on spec_tree tree_cmp

-- it is total
pub spec_total : IsTotalOrder spec_cmp
spec_total = on_total spec_tree trees_total
