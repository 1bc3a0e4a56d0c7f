use Rattle.std.proofs.Common.{◌-◌, refl, sym as flip, ◌∙◌ as ◌∘◌, arith}
use Rattle.std.proofs.lemmas.Result.{err_from_is_err_and}
use Rattle.sve_grammar.specs.Statements.{block_items, case_items}
use Rattle.sve_grammar.proofs.Loops.{keeps_init, keeps_on, keeps_end, keeps_fails}
use Rattle.sve_tree.specs.Statements.{block_item_tree}
use Rattle.sve_tree.proofs.Shapes.{first_one, first_stays, first_seen, others_one, others_push, others_ended, repeated_nil, repeated_push, repeated_ended}
use Rattle.sve_tree.proofs.StatementTrees.{for_stmt, foreach_stmt}
use Rattle.sve_parse_stmt.proofs.Fronts.{way_fails, for_reads, for_fails, for_stops, foreach_reads, foreach_fails, foreach_stops}
use Rattle.sve_parse_stmt.proofs.+statement.Goals as goal

pub statements::block_items-turns-init : goal.statements::block_items-turns-init
unfolding block_items
statements::block_items-turns-init t c = (keeps_init _ _ _ _ _ (rw c.new-items.ensures.items (repeated_nil block_item_tree)) c.requires.from, omega arith)

pub statements::block_items-turns-preserved : goal.statements::block_items-turns-preserved
statements::block_items-turns-preserved t c = (
  keeps_on _ _ _ _ _ _ _ _ _ c.turns.invariant.0 c.in-Some.ensures.0 c.in_ok-item.ensures.tree (rw c.in_ok-push.ensures.items (repeated_push block_item_tree _ _)) c.in_ok-item.ensures.end.1,
  omega (arith, c.in_ok-item.ensures.end, c.turns.invariant),
)

pub statements::block_items-returns-in_err-item-clause-tree : goal.statements::block_items-returns-in_err-item-clause-tree
statements::block_items-returns-in_err-item-clause-tree t c =
    let p = err_from_is_err_and c.from_residual.result c.from_residual.ensures.1 in
    rw (p.1, p.2) (keeps_fails _ _ _ _ _ _ c.turns.invariant.0 c.in_err-item.field-0.0 c.in-Some.ensures.0 c.in_err-item.ensures.tree)

pub statements::block_items-returns-clause-tree : goal.statements::block_items-returns-clause-tree
statements::block_items-returns-clause-tree t c = keeps_end _ _ _ _ _ _ c.turns.invariant.0 c.in_default.ensures (repeated_ended block_item_tree _)

pub cases::more_case_items-turns-init : goal.cases::more_case_items-turns-init
unfolding case_items
cases::more_case_items-turns-init t c = rw (c.in_ok-push.ensures.items, c.new-items.ensures.items) (keeps_init _ _ _ _ _ (others_one _ _) c.requires.from, first_one _, omega arith)

pub cases::more_case_items-turns-preserved : goal.cases::more_case_items-turns-preserved
cases::more_case_items-turns-preserved t c =
    rw c.in_ok-push-2.ensures.items (
      keeps_on _ _ _ _ _ _ _ _ _ c.turns.invariant.0 (flip c.begins_case_item.ensures.statement ∘ c.turns-test.true) c.in_ok-item.ensures.tree (others_push _ _ _ _ c.turns.invariant.1) c.in_ok-item.ensures.end.1,
      first_stays _ _ _ c.turns.invariant.1,
      omega (arith, c.in_ok-item.ensures.end, c.turns.invariant.2),
    )

pub cases::more_case_items-returns-in_err-item-clause-tree : goal.cases::more_case_items-returns-in_err-item-clause-tree
cases::more_case_items-returns-in_err-item-clause-tree t c =
    let p = err_from_is_err_and c.from_residual-in_err-item.result c.from_residual-in_err-item.ensures.1 in
    rw (p.1, p.2) (keeps_fails _ _ _ _ _ _ c.turns.invariant.0 c.in_err-item.field-0.0 (flip c.begins_case_item.ensures.statement ∘ c.turns-test.true) c.in_err-item.ensures.tree)

pub cases::more_case_items-returns-clause-tree : goal.cases::more_case_items-returns-clause-tree
cases::more_case_items-returns-clause-tree t c = keeps_end _ _ _ _ _ _ c.turns.invariant.0 (flip c.begins_case_item.ensures.statement ∘ c.turns-test.false) (others_ended _ _ _ c.turns.invariant.1)

pub cases::more_case_items-returns-clause-first : goal.cases::more_case_items-returns-clause-first
cases::more_case_items-returns-clause-first t c = first_seen _ _ _ c.turns.invariant.1

pub loops::for_statement-returns-in_err-head-clause-tree : goal.loops::for_statement-returns-in_err-head-clause-tree
loops::for_statement-returns-in_err-head-clause-tree t c =
    let p = err_from_is_err_and c.from_residual.result c.from_residual.ensures.1 in
    rw (p.1, p.2) (way_fails 3 _ _ (for_stops c.args.tokens.now c.args.depth c.args.from c.in_err-head.field-0.0 c.in_err-head.ensures.tree))

pub loops::for_statement-returns-in_err-body-clause-tree : goal.loops::for_statement-returns-in_err-body-clause-tree
loops::for_statement-returns-in_err-body-clause-tree t c =
    let p = err_from_is_err_and c.from_residual-in_err-body.result c.from_residual-in_err-body.ensures.1 in
    rw (p.1, p.2) (way_fails 3 _ _ (for_fails c.args.tokens.now c.args.depth c.args.from c.in_ok-head.head c.in_ok-head.at c.in_ok-head.ensures.tree c.in_err-body.field-0.0 c.in_err-body.ensures.tree))

pub loops::for_statement-returns-clause-tree : goal.loops::for_statement-returns-clause-tree
loops::for_statement-returns-clause-tree t c =
    rw (for_reads c.args.tokens.now c.args.depth c.args.from c.in_ok-head.head c.in_ok-head.at c.in_ok-head.ensures.tree _ _ c.in_ok-body.ensures.tree, for_stmt c.in_ok-statement.statement, c.in_ok-statement.ensures.ok) refl

pub loops::foreach_statement-returns-in_err-head-clause-tree : goal.loops::foreach_statement-returns-in_err-head-clause-tree
loops::foreach_statement-returns-in_err-head-clause-tree t c =
    let p = err_from_is_err_and c.from_residual.result c.from_residual.ensures.1 in
    rw (p.1, p.2) (way_fails 4 _ _ (foreach_stops c.args.tokens.now c.args.depth c.args.from c.in_err-head.field-0.0 c.in_err-head.ensures.tree))

pub loops::foreach_statement-returns-in_err-body-clause-tree : goal.loops::foreach_statement-returns-in_err-body-clause-tree
loops::foreach_statement-returns-in_err-body-clause-tree t c =
    let p = err_from_is_err_and c.from_residual-in_err-body.result c.from_residual-in_err-body.ensures.1 in
    rw (p.1, p.2) (way_fails 4 _ _ (foreach_fails c.args.tokens.now c.args.depth c.args.from c.in_ok-head.head c.in_ok-head.at c.in_ok-head.ensures.tree c.in_err-body.field-0.0 c.in_err-body.ensures.tree))

pub loops::foreach_statement-returns-clause-tree : goal.loops::foreach_statement-returns-clause-tree
loops::foreach_statement-returns-clause-tree t c =
    rw (foreach_reads c.args.tokens.now c.args.depth c.args.from c.in_ok-head.head c.in_ok-head.at c.in_ok-head.ensures.tree _ _ c.in_ok-body.ensures.tree, foreach_stmt c.in_ok-statement.statement, c.in_ok-statement.ensures.ok) refl
