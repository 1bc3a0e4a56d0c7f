use Rattle.std.proofs.Common.{◌-◌, refl, arith}
use Rattle.std.proofs.lemmas.Result.{err_from_is_err_and}
use Rattle.sve_grammar.specs.Items.{event_separator, event_expression, more_events}
use Rattle.sve_grammar.proofs.Loops.{keeps_init, keeps_on, keeps_end, keeps_fails}
use Rattle.sve_grammar.proofs.StartsOfItems.{event_separator_full}
use Rattle.sve_tree.proofs.Shapes.{row_one, row_push, rest_one, rest_push, rest_ended}
use Rattle.sve_parse_procedure.proofs.Ways.{separated, separated_fails}
use Rattle.sve_parse_procedure.proofs.events.more_events.Goals as goal

pub turns-init : goal.turns-init
unfolding more_events
turns-init c = rw (c.in_ok-push.ensures.items, c.new-items.ensures.items, c.new-separators.ensures.items) (keeps_init _ _ _ _ _ (rest_one _ _ _) c.requires.from, row_one _ _ refl, omega arith)

pub turns-preserved : goal.turns-preserved
turns-preserved c =
    rw (c.in_ok-push-3.ensures.items, c.in_ok-push-2.ensures.items) (
      keeps_on _ _ _ _ _ _ _ _ _ c.turns.invariant.0 (rw c.in-Some.ensures.0 refl) (separated c.args.tokens.now (512 - c.args.depth) _ _ _ event_separator event_expression _ _ (c.in-Some.ensures.1 _) c.in_ok-item.ensures.tree) (rest_push _ _ _ _ _ _ _ c.turns.invariant.1) c.in_ok-item.ensures.end.1,
      row_push _ _ _ _ _ c.turns.invariant.1,
      omega (arith, c.in-Some.ensures, c.in_ok-item.ensures.end, c.turns.invariant.2),
    )

pub returns-in_err-item-clause-tree : goal.returns-in_err-item-clause-tree
returns-in_err-item-clause-tree c =
    let p = err_from_is_err_and c.from_residual-in_err-item.result c.from_residual-in_err-item.ensures.1 in
    rw (p.1, p.2) (keeps_fails _ _ _ _ _ _ c.turns.invariant.0 c.in_err-item.field-0.0 (rw c.in-Some.ensures.0 refl) (separated_fails c.args.tokens.now (512 - c.args.depth) _ _ event_separator event_expression _ c.in_err-item.field-0.0 (c.in-Some.ensures.1 _) c.in_err-item.ensures.tree))

pub returns-clause-tree : goal.returns-clause-tree
returns-clause-tree c = keeps_end _ _ _ _ _ _ c.turns.invariant.0 (rw (c.in_default.ensures, event_separator_full) refl) (rest_ended _ _ _ _ _ c.turns.invariant.1)

pub returns-clause-first : goal.returns-clause-first
returns-clause-first c = c.turns.invariant.1
