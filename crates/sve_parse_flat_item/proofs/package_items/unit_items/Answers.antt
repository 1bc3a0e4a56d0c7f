use Rattle.std.proofs.Common.{arith}
use Rattle.std.proofs.lemmas.Result.{err_from_is_err_and}
use Rattle.sve_grammar.specs.Items.{unit_items}
use Rattle.sve_grammar.proofs.Loops.{keeps_init, keeps_on, keeps_end, keeps_fails}
use Rattle.sve_tree.proofs.Shapes.{repeated_nil, repeated_push, repeated_ended}
use Rattle.sve_parse_flat_item.proofs.package_items.unit_items.Goals as goal

pub turns-init : goal.turns-init
unfolding unit_items
turns-init c = (keeps_init _ _ _ _ _ (rw c.new-items.ensures.items (repeated_nil _)) c.requires.from, omega arith)

pub turns-preserved : goal.turns-preserved
turns-preserved c = (
  keeps_on _ _ _ _ _ _ _ _ _ c.turns.invariant.0 c.in-Some.ensures.0 c.in_ok-item.ensures.tree (rw c.in_ok-push.ensures.items (repeated_push _ _ _)) c.in_ok-item.ensures.end.1,
  omega (arith, c.in_ok-item.ensures.end, c.turns.invariant),
)

pub returns-in_err-item-clause-tree : goal.returns-in_err-item-clause-tree
returns-in_err-item-clause-tree c =
    let p = err_from_is_err_and c.from_residual.result c.from_residual.ensures.1 in
    rw (p.1, p.2) (keeps_fails _ _ _ _ _ _ c.turns.invariant.0 c.in_err-item.field-0.0 c.in-Some.ensures.0 c.in_err-item.ensures.tree)

pub returns-clause-tree : goal.returns-clause-tree
returns-clause-tree c = keeps_end _ _ _ _ _ _ c.turns.invariant.0 c.in_default.ensures (repeated_ended _ _)
