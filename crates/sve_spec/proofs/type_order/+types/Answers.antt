use Rattle.std.proofs.Common.{◌∙◌, sym, arith}
use Rattle.sve_spec.specs.Trees.{member_tree}
use Rattle.sve_spec.proofs.TreeOrders.{longer}
use Rattle.sve_spec.proofs.type_order.+types.Goals as goal

pub members_order-returns-then-members-other : goal.members_order-returns-then-members-other
members_order-returns-then-members-other t c =
    sym (longer member_tree c.args.members.now c.args.other.now c.members.place (omega arith) (omega (arith, c.if-members-other.true))) ∙ c.members.invariant
