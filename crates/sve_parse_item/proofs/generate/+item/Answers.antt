use Rattle.std.proofs.Common.{sym as flip, ◌∙◌ as ◌∘◌, arith}
use Rattle.std.proofs.lemmas.Result.{err_from_is_err_and}
use Rattle.sve_grammar.specs.Items.{items, case_generate_items}
use Rattle.sve_grammar.proofs.Loops.{keeps_init, keeps_on, keeps_end, keeps_fails}
use Rattle.sve_tree.proofs.Shapes.{repeated_nil, repeated_push, repeated_ended, first_one, first_stays, first_seen, others_one, others_push, others_ended}
use Rattle.sve_parse_item.proofs.generate.+item.Goals as goal

-- ---- the items of a block, a module or an interface

pub items-turns-init : goal.items-turns-init
unfolding items
items-turns-init t c = (keeps_init _ _ _ _ _ (rw c.new-items.ensures.items (repeated_nil _)) c.requires.from, omega arith)

pub items-turns-preserved : goal.items-turns-preserved
items-turns-preserved t c = (
  keeps_on _ _ _ _ _ _ _ _ _ c.turns.invariant.0 (flip c.begins_item.ensures ∘ c.turns-test.true) c.in_ok-item.ensures.tree (rw c.in_ok-push.ensures.items (repeated_push _ _ _)) c.in_ok-item.ensures.end.1,
  omega (arith, c.in_ok-item.ensures.end, c.turns.invariant),
)

pub items-returns-in_err-item-clause-tree : goal.items-returns-in_err-item-clause-tree
items-returns-in_err-item-clause-tree t c =
    let p = err_from_is_err_and c.from_residual.result c.from_residual.ensures.1 in
    rw (p.1, p.2) (keeps_fails _ _ _ _ _ _ c.turns.invariant.0 c.in_err-item.field-0.0 (flip c.begins_item.ensures ∘ c.turns-test.true) c.in_err-item.ensures.tree)

pub items-returns-clause-tree : goal.items-returns-clause-tree
items-returns-clause-tree t c = keeps_end _ _ _ _ _ _ c.turns.invariant.0 (flip c.begins_item.ensures ∘ c.turns-test.false) (repeated_ended _ _)

-- ---- the items of a generate case

pub more_case_items-turns-init : goal.more_case_items-turns-init
unfolding case_generate_items
more_case_items-turns-init t c = rw (c.in_ok-push.ensures.items, c.new-items.ensures.items) (keeps_init _ _ _ _ _ (others_one _ _) c.requires.from, first_one _, omega arith)

pub more_case_items-turns-preserved : goal.more_case_items-turns-preserved
more_case_items-turns-preserved t c =
    rw c.in_ok-push-2.ensures.items (
      keeps_on _ _ _ _ _ _ _ _ _ c.turns.invariant.0 (flip c.begins_case_item.ensures.generate ∘ c.turns-test.true) c.in_ok-item.ensures.tree (others_push _ _ _ _ c.turns.invariant.1) c.in_ok-item.ensures.end.1,
      first_stays _ _ _ c.turns.invariant.1,
      omega (arith, c.in_ok-item.ensures.end, c.turns.invariant.2),
    )

pub more_case_items-returns-in_err-item-clause-tree : goal.more_case_items-returns-in_err-item-clause-tree
more_case_items-returns-in_err-item-clause-tree t c =
    let p = err_from_is_err_and c.from_residual-in_err-item.result c.from_residual-in_err-item.ensures.1 in
    rw (p.1, p.2) (keeps_fails _ _ _ _ _ _ c.turns.invariant.0 c.in_err-item.field-0.0 (flip c.begins_case_item.ensures.generate ∘ c.turns-test.true) c.in_err-item.ensures.tree)

pub more_case_items-returns-clause-tree : goal.more_case_items-returns-clause-tree
more_case_items-returns-clause-tree t c = keeps_end _ _ _ _ _ _ c.turns.invariant.0 (flip c.begins_case_item.ensures.generate ∘ c.turns-test.false) (others_ended _ _ _ c.turns.invariant.1)

pub more_case_items-returns-clause-first : goal.more_case_items-returns-clause-first
more_case_items-returns-clause-first t c = first_seen _ _ _ c.turns.invariant.1
