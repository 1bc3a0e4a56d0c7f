-- The order parts them.
use Rattle.std.proofs.Common.{ltb, ltb-false, ltb-true, rules}
use Rattle.std.proofs.lemmas.List.Sorted.{IsPartitionPoint-from_clause, IsPartitionedBy-ltb}
use Rattle.sve_design_kinds.proofs.beginnings.count_in_front.Goals as goal

pub returns-clause-parts : goal.returns-clause-parts
returns-clause-parts c =
    let parted = IsPartitionedBy-ltb (λ y. y) c.args.in_order.now c.args.token c.requires in
    let point = IsPartitionPoint-from_clause (λ y. ltb y c.args.token) c.args.in_order.now _ c.partition_point.ensures.partitioned parted (λ a r q k. search rules) in
    (λ k d low high. ltb-true _ _ (point.0 k d low high), λ k d low high. ltb-false _ _ (point.1 k d low high))
