use Rattle.sve_tree.proofs.Firsts.{first_of_operations, first_of_conditional, first_of_implication}
use Rattle.sve_tree.proofs.expression.Expr.+first_token.Goals as goal

pub returns-in-Operations : goal.returns-in-Operations
returns-in-Operations n c = rw c.in-Operations.is (first_of_operations c.first_token-in-Operations.result c.in-Operations.first c.in-Operations.operations (rw (← c.deref.ensures) c.first_token-in-Operations.ensures))

pub returns-in-Conditional : goal.returns-in-Conditional
returns-in-Conditional n c = rw c.in-Conditional.is (first_of_conditional c.first_token-in-Conditional.result c.in-Conditional.condition c.in-Conditional.question c.in-Conditional.chosen c.in-Conditional.colon c.in-Conditional.otherwise (rw (← c.deref-in-Conditional.ensures) c.first_token-in-Conditional.ensures))

pub returns-in-Implication : goal.returns-in-Implication
returns-in-Implication n c = rw c.in-Implication.is (first_of_implication c.first_token-in-Implication.result c.in-Implication.left c.in-Implication.operator c.in-Implication.right (rw (← c.deref-in-Implication.ensures) c.first_token-in-Implication.ensures))
