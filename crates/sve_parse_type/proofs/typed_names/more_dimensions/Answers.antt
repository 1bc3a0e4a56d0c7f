use Rattle.std.proofs.Common.{sym as flip, ◌∙◌ as ◌∘◌, arith}
use Rattle.std.proofs.lemmas.Result.{err_from_is_err_and}
use Rattle.sve_grammar.specs.Expressions.{dimensions}
use Rattle.sve_grammar.proofs.StartsOfExpressions.{dimension_starts}
use Rattle.sve_grammar.proofs.Loops.{keeps_init, keeps_on, keeps_end, keeps_fails}
use Rattle.sve_tree.proofs.Shapes.{first_one, first_stays, others_one, others_push, others_ended}
use Rattle.sve_parse_type.proofs.typed_names.more_dimensions.Goals as goal

pub turns-init : goal.turns-init
unfolding dimensions
turns-init c = rw (c.in_ok-push.ensures.items, c.new-items.ensures.items) (keeps_init _ _ _ _ _ (others_one _ _) c.requires.from, first_one _, omega arith)

pub turns-preserved : goal.turns-preserved
turns-preserved c =
    rw c.in_ok-push-2.ensures.items (
      keeps_on _ _ _ _ _ _ _ _ _ c.turns.invariant.0 (dimension_starts _ ∘ flip c.is_kind.ensures ∘ c.turns-test.true) c.in_ok-item.ensures.tree (others_push _ _ _ _ c.turns.invariant.1) c.in_ok-item.ensures.end.1,
      first_stays _ _ _ c.turns.invariant.1,
      omega (arith, c.in_ok-item.ensures.end, c.turns.invariant.2),
    )

pub returns-in_err-item-clause-tree : goal.returns-in_err-item-clause-tree
returns-in_err-item-clause-tree c =
    let p = err_from_is_err_and c.from_residual-in_err-item.result c.from_residual-in_err-item.ensures.1 in
    rw (p.1, p.2) (keeps_fails _ _ _ _ _ _ c.turns.invariant.0 c.in_err-item.field-0.0 (dimension_starts _ ∘ flip c.is_kind.ensures ∘ c.turns-test.true) c.in_err-item.ensures.tree)

pub returns-clause-tree : goal.returns-clause-tree
returns-clause-tree c = keeps_end _ _ _ _ _ _ c.turns.invariant.0 (dimension_starts _ ∘ flip c.is_kind.ensures ∘ c.turns-test.false) (others_ended _ _ _ c.turns.invariant.1)

pub returns-clause-first : goal.returns-clause-first
returns-clause-first c = c.turns.invariant.1
