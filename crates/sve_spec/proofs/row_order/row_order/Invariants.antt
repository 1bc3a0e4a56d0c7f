-- So far the rows are alike.
use Rattle.std.proofs.Common.{◌≡◌}
use Rattle.sve_spec.proofs.TreeOrders.{from_place}
use Rattle.sve_spec.proofs.row_order.row_order.Given as goal

abbrev pub invariant-items : goal.invariant-items
invariant-items g l = from_place g.T.InOrder.tree l.place l.row l.other ≡ from_place g.T.InOrder.tree 0 l.row l.other
