use Rattle.std.proofs.Common.{◌∙◌, sym, arith}
use Rattle.sve_spec.proofs.TreeOrders.{longer}
use Rattle.sve_spec.proofs.row_order.row_order.Goals as goal

pub returns-then-row-other : goal.returns-then-row-other
returns-then-row-other g c = sym (longer g.T.InOrder.tree c.args.row.now c.args.other.now c.items.place (omega arith) (omega (arith, c.if-row-other.true))) ∙ c.items.invariant
