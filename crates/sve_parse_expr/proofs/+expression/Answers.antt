use Rattle.std.proofs.Common.{◌-◌, length, refl, ap, sym as flip, ◌∙◌ as ◌∘◌, arith}
use Rattle.std.proofs.lemmas.Result.{err_from_is_err_and}
use Rattle.sve_grammar.specs.declared.symbol.Symbol.TheVariants.{Expression}
use Rattle.sve_grammar.specs.Rule.{sym}
use Rattle.sve_grammar.specs.Grammar.{rule}
use Rattle.sve_grammar.specs.Expressions.{argument, bracket_selects, dimensions, integer_type, signing, typed_primary, more_arguments, more_expressions, more_pattern_items, more_value_ranges, operations, pattern_item, postfixes, selects, value_range}
use Rattle.sve_grammar.specs.Reading.{Tree, leaf, pair, reads, symbol}
use Rattle.sve_grammar.proofs.Loops.{chain_begins, keeps_init, keeps_on, keeps_end, keeps_fails}
use Rattle.sve_grammar.proofs.Idle.{fails_later, stops_here}
use Rattle.sve_grammar.proofs.Levels.{level_fails}
use Rattle.sve_grammar.proofs.StartsOfExpressions.{bracket_select_starts, dimension_starts, integer_type_full, signing_full}
use Rattle.sve_tree.specs.Expressions.{arg_tree, dimension_tree, operation_tree, pattern_item_tree, postfix_tree, range_select_tree, select_tree, tree_at, value_range_tree}
use Rattle.sve_tree.proofs.Shapes.{first_is, repeated_ended, repeated_nil, repeated_push, rest_ended, rest_one, rest_push, row_one, row_push}
use Rattle.sve_tree.proofs.ExpressionTrees.{all_of_level_push, binary_operation, chain_level_is, implication_expr, operations_expr}
use Rattle.sve_parse_expr.proofs.Chains.{chain_goes_on, level_reached, level_stops, levels_pass, moved_on, operation_fails, operation_is_membership, operation_reads, some_push}
use Rattle.sve_parse_expr.proofs.Ways.{implication_fails, implication_reads}
use Rattle.sve_parse_expr.proofs.+expression.Goals as goal

pub parts::dimensions-turns-init : goal.parts::dimensions-turns-init
unfolding dimensions
parts::dimensions-turns-init t c = (keeps_init _ _ _ _ _ (rw c.new-items.ensures.items (repeated_nil dimension_tree)) c.requires.from, omega arith)

pub parts::dimensions-turns-preserved : goal.parts::dimensions-turns-preserved
parts::dimensions-turns-preserved t c = (
  keeps_on _ _ _ _ _ _ _ _ _ c.turns.invariant.0 (dimension_starts _ ∘ flip c.is_kind.ensures ∘ c.turns-test.true) c.in_ok-item.ensures.tree (rw c.in_ok-push.ensures.items (repeated_push dimension_tree _ _)) c.in_ok-item.ensures.end.1,
  omega (arith, c.in_ok-item.ensures.end, c.turns.invariant),
)

pub parts::dimensions-returns-in_err-item-clause-tree : goal.parts::dimensions-returns-in_err-item-clause-tree
parts::dimensions-returns-in_err-item-clause-tree t c =
    let p = err_from_is_err_and c.from_residual.result c.from_residual.ensures.1 in
    rw (p.1, p.2) (keeps_fails _ _ _ _ _ _ c.turns.invariant.0 c.in_err-item.field-0.0 (dimension_starts _ ∘ flip c.is_kind.ensures ∘ c.turns-test.true) c.in_err-item.ensures.tree)

pub parts::dimensions-returns-clause-tree : goal.parts::dimensions-returns-clause-tree
parts::dimensions-returns-clause-tree t c = keeps_end _ _ _ _ _ _ c.turns.invariant.0 (dimension_starts _ ∘ flip c.is_kind.ensures ∘ c.turns-test.false) (repeated_ended dimension_tree _)

pub parts::bracket_selects-turns-init : goal.parts::bracket_selects-turns-init
unfolding bracket_selects
parts::bracket_selects-turns-init t c = (keeps_init _ _ _ _ _ (rw c.new-items.ensures.items (repeated_nil range_select_tree)) c.requires.from, omega arith)

pub parts::bracket_selects-turns-preserved : goal.parts::bracket_selects-turns-preserved
parts::bracket_selects-turns-preserved t c = (
  keeps_on _ _ _ _ _ _ _ _ _ c.turns.invariant.0 (bracket_select_starts _ ∘ flip c.is_kind.ensures ∘ c.turns-test.true) c.in_ok-item.ensures.tree (rw c.in_ok-push.ensures.items (repeated_push range_select_tree _ _)) c.in_ok-item.ensures.end.1,
  omega (arith, c.in_ok-item.ensures.end, c.turns.invariant),
)

pub parts::bracket_selects-returns-in_err-item-clause-tree : goal.parts::bracket_selects-returns-in_err-item-clause-tree
parts::bracket_selects-returns-in_err-item-clause-tree t c =
    let p = err_from_is_err_and c.from_residual.result c.from_residual.ensures.1 in
    rw (p.1, p.2) (keeps_fails _ _ _ _ _ _ c.turns.invariant.0 c.in_err-item.field-0.0 (bracket_select_starts _ ∘ flip c.is_kind.ensures ∘ c.turns-test.true) c.in_err-item.ensures.tree)

pub parts::bracket_selects-returns-clause-tree : goal.parts::bracket_selects-returns-clause-tree
parts::bracket_selects-returns-clause-tree t c = keeps_end _ _ _ _ _ _ c.turns.invariant.0 (bracket_select_starts _ ∘ flip c.is_kind.ensures ∘ c.turns-test.false) (repeated_ended range_select_tree _)

pub parts::selects-turns-init : goal.parts::selects-turns-init
unfolding selects
parts::selects-turns-init t c = (keeps_init _ _ _ _ _ (rw c.new-items.ensures.items (repeated_nil select_tree)) c.requires.from, omega arith)

pub parts::selects-turns-preserved : goal.parts::selects-turns-preserved
parts::selects-turns-preserved t c = (
  keeps_on _ _ _ _ _ _ _ _ _ c.turns.invariant.0 (flip c.begins_select.ensures ∘ c.turns-test.true) c.in_ok-item.ensures.tree (rw c.in_ok-push.ensures.items (repeated_push select_tree _ _)) c.in_ok-item.ensures.end.1,
  omega (arith, c.in_ok-item.ensures.end, c.turns.invariant),
)

pub parts::selects-returns-in_err-item-clause-tree : goal.parts::selects-returns-in_err-item-clause-tree
parts::selects-returns-in_err-item-clause-tree t c =
    let p = err_from_is_err_and c.from_residual.result c.from_residual.ensures.1 in
    rw (p.1, p.2) (keeps_fails _ _ _ _ _ _ c.turns.invariant.0 c.in_err-item.field-0.0 (flip c.begins_select.ensures ∘ c.turns-test.true) c.in_err-item.ensures.tree)

pub parts::selects-returns-clause-tree : goal.parts::selects-returns-clause-tree
parts::selects-returns-clause-tree t c = keeps_end _ _ _ _ _ _ c.turns.invariant.0 (flip c.begins_select.ensures ∘ c.turns-test.false) (repeated_ended select_tree _)

pub parts::postfixes-turns-init : goal.parts::postfixes-turns-init
unfolding postfixes
parts::postfixes-turns-init t c = (keeps_init _ _ _ _ _ (rw c.new-items.ensures.items (repeated_nil postfix_tree)) c.requires.from, omega arith)

pub parts::postfixes-turns-preserved : goal.parts::postfixes-turns-preserved
parts::postfixes-turns-preserved t c = (
  keeps_on _ _ _ _ _ _ _ _ _ c.turns.invariant.0 (flip c.begins_postfix.ensures ∘ c.turns-test.true) c.in_ok-item.ensures.tree (rw c.in_ok-push.ensures.items (repeated_push postfix_tree _ _)) c.in_ok-item.ensures.end.1,
  omega (arith, c.in_ok-item.ensures.end, c.turns.invariant),
)

pub parts::postfixes-returns-in_err-item-clause-tree : goal.parts::postfixes-returns-in_err-item-clause-tree
parts::postfixes-returns-in_err-item-clause-tree t c =
    let p = err_from_is_err_and c.from_residual.result c.from_residual.ensures.1 in
    rw (p.1, p.2) (keeps_fails _ _ _ _ _ _ c.turns.invariant.0 c.in_err-item.field-0.0 (flip c.begins_postfix.ensures ∘ c.turns-test.true) c.in_err-item.ensures.tree)

pub parts::postfixes-returns-clause-tree : goal.parts::postfixes-returns-clause-tree
parts::postfixes-returns-clause-tree t c = keeps_end _ _ _ _ _ _ c.turns.invariant.0 (flip c.begins_postfix.ensures ∘ c.turns-test.false) (repeated_ended postfix_tree _)

pub lists::more_expressions-turns-init : goal.lists::more_expressions-turns-init
unfolding more_expressions
lists::more_expressions-turns-init t c = (
  keeps_init _ _ _ _ _ (rw (c.in_ok-push.ensures.items, c.new-items.ensures.items, c.new-separators.ensures.items) (rest_one (tree_at 13) leaf c.args.first)) c.requires.from,
  rw (c.in_ok-push.ensures.items, c.new-items.ensures.items) (row_one c.args.first _ c.new-separators.ensures.items),
  omega arith,
)

pub lists::more_expressions-turns-preserved : goal.lists::more_expressions-turns-preserved
lists::more_expressions-turns-preserved t c = (
  keeps_on _ _ _ _ _ _ (pair (leaf c.turns.at) ((tree_at 13) c.in_ok-value.value)) _ _ c.turns.invariant.0 (rw c.in-Some.ensures.0 refl) (rw (c.in-Some.ensures.1, c.in_ok-value.ensures.tree) refl) (rw (c.in_ok-push-3.ensures.items, c.in_ok-push-2.ensures.items) (rest_push (tree_at 13) leaf c.args.first _ _ _ _ c.turns.invariant.1)) c.in_ok-value.ensures.end.1,
  rw (c.in_ok-push-3.ensures.items, c.in_ok-push-2.ensures.items) (row_push c.args.first _ _ _ _ c.turns.invariant.1),
  omega (arith, c.in-Some.ensures, c.in_ok-value.ensures.end, c.turns.invariant),
)

pub lists::more_expressions-returns-in_err-value-clause-tree : goal.lists::more_expressions-returns-in_err-value-clause-tree
lists::more_expressions-returns-in_err-value-clause-tree t c =
    let p = err_from_is_err_and c.from_residual-in_err-value.result c.from_residual-in_err-value.ensures.1 in
    rw (p.1, p.2) (keeps_fails _ _ _ _ _ _ c.turns.invariant.0 c.in_err-value.field-0.0 (rw c.in-Some.ensures.0 refl) (rw c.in-Some.ensures.1 (fails_later _ _ _ (reads c.args.tokens.now (symbol c.args.tokens.now (512 - c.args.depth)) (sym Expression)) c.in_err-value.ensures.tree)))

pub lists::more_expressions-returns-clause-tree : goal.lists::more_expressions-returns-clause-tree
lists::more_expressions-returns-clause-tree t c = keeps_end _ _ _ _ _ _ c.turns.invariant.0 (rw c.in_default.ensures refl) (rest_ended (tree_at 13) leaf c.args.first _ _ c.turns.invariant.1)

pub lists::more_expressions-returns-clause-first : goal.lists::more_expressions-returns-clause-first
lists::more_expressions-returns-clause-first t c = first_is (tree_at 13) c.args.first _ _ c.turns.invariant.1

pub lists::more_arguments-turns-init : goal.lists::more_arguments-turns-init
unfolding more_arguments
lists::more_arguments-turns-init t c = (
  keeps_init _ _ _ _ _ (rw (c.in_ok-push.ensures.items, c.new-items.ensures.items, c.new-separators.ensures.items) (rest_one arg_tree leaf c.args.first)) c.requires.from,
  rw (c.in_ok-push.ensures.items, c.new-items.ensures.items) (row_one c.args.first _ c.new-separators.ensures.items),
  omega arith,
)

pub lists::more_arguments-turns-preserved : goal.lists::more_arguments-turns-preserved
lists::more_arguments-turns-preserved t c = (
  keeps_on _ _ _ _ _ _ (pair (leaf c.turns.at) (arg_tree c.in_ok-argument.argument)) _ _ c.turns.invariant.0 (rw c.in-Some.ensures.0 refl) (rw (c.in-Some.ensures.1, c.in_ok-argument.ensures.tree) refl) (rw (c.in_ok-push-3.ensures.items, c.in_ok-push-2.ensures.items) (rest_push arg_tree leaf c.args.first _ _ _ _ c.turns.invariant.1)) c.in_ok-argument.ensures.end.1,
  rw (c.in_ok-push-3.ensures.items, c.in_ok-push-2.ensures.items) (row_push c.args.first _ _ _ _ c.turns.invariant.1),
  omega (arith, c.in-Some.ensures, c.in_ok-argument.ensures.end, c.turns.invariant),
)

pub lists::more_arguments-returns-in_err-argument-clause-tree : goal.lists::more_arguments-returns-in_err-argument-clause-tree
lists::more_arguments-returns-in_err-argument-clause-tree t c =
    let p = err_from_is_err_and c.from_residual-in_err-argument.result c.from_residual-in_err-argument.ensures.1 in
    rw (p.1, p.2) (keeps_fails _ _ _ _ _ _ c.turns.invariant.0 c.in_err-argument.field-0.0 (rw c.in-Some.ensures.0 refl) (rw c.in-Some.ensures.1 (fails_later _ _ _ (reads c.args.tokens.now (symbol c.args.tokens.now (512 - c.args.depth)) argument) c.in_err-argument.ensures.tree)))

pub lists::more_arguments-returns-clause-tree : goal.lists::more_arguments-returns-clause-tree
lists::more_arguments-returns-clause-tree t c = keeps_end _ _ _ _ _ _ c.turns.invariant.0 (rw c.in_default.ensures refl) (rest_ended arg_tree leaf c.args.first _ _ c.turns.invariant.1)

pub lists::more_arguments-returns-clause-first : goal.lists::more_arguments-returns-clause-first
lists::more_arguments-returns-clause-first t c = first_is arg_tree c.args.first _ _ c.turns.invariant.1

pub lists::more_pattern_items-turns-init : goal.lists::more_pattern_items-turns-init
unfolding more_pattern_items
lists::more_pattern_items-turns-init t c = (
  keeps_init _ _ _ _ _ (rw (c.in_ok-push.ensures.items, c.new-items.ensures.items, c.new-separators.ensures.items) (rest_one pattern_item_tree leaf c.args.first)) c.requires.from,
  rw (c.in_ok-push.ensures.items, c.new-items.ensures.items) (row_one c.args.first _ c.new-separators.ensures.items),
  omega arith,
)

pub lists::more_pattern_items-turns-preserved : goal.lists::more_pattern_items-turns-preserved
lists::more_pattern_items-turns-preserved t c = (
  keeps_on _ _ _ _ _ _ (pair (leaf c.turns.at) (pattern_item_tree c.in_ok-item.item)) _ _ c.turns.invariant.0 (rw c.in-Some.ensures.0 refl) (rw (c.in-Some.ensures.1, c.in_ok-item.ensures.tree) refl) (rw (c.in_ok-push-3.ensures.items, c.in_ok-push-2.ensures.items) (rest_push pattern_item_tree leaf c.args.first _ _ _ _ c.turns.invariant.1)) c.in_ok-item.ensures.end.1,
  rw (c.in_ok-push-3.ensures.items, c.in_ok-push-2.ensures.items) (row_push c.args.first _ _ _ _ c.turns.invariant.1),
  omega (arith, c.in-Some.ensures, c.in_ok-item.ensures.end, c.turns.invariant),
)

pub lists::more_pattern_items-returns-in_err-item-clause-tree : goal.lists::more_pattern_items-returns-in_err-item-clause-tree
lists::more_pattern_items-returns-in_err-item-clause-tree t c =
    let p = err_from_is_err_and c.from_residual-in_err-item.result c.from_residual-in_err-item.ensures.1 in
    rw (p.1, p.2) (keeps_fails _ _ _ _ _ _ c.turns.invariant.0 c.in_err-item.field-0.0 (rw c.in-Some.ensures.0 refl) (rw c.in-Some.ensures.1 (fails_later _ _ _ (reads c.args.tokens.now (symbol c.args.tokens.now (512 - c.args.depth)) pattern_item) c.in_err-item.ensures.tree)))

pub lists::more_pattern_items-returns-clause-tree : goal.lists::more_pattern_items-returns-clause-tree
lists::more_pattern_items-returns-clause-tree t c = keeps_end _ _ _ _ _ _ c.turns.invariant.0 (rw c.in_default.ensures refl) (rest_ended pattern_item_tree leaf c.args.first _ _ c.turns.invariant.1)

pub lists::more_pattern_items-returns-clause-first : goal.lists::more_pattern_items-returns-clause-first
lists::more_pattern_items-returns-clause-first t c = first_is pattern_item_tree c.args.first _ _ c.turns.invariant.1

pub operators::more_value_ranges-turns-init : goal.operators::more_value_ranges-turns-init
unfolding more_value_ranges
operators::more_value_ranges-turns-init t c = (
  keeps_init _ _ _ _ _ (rw (c.in_ok-push.ensures.items, c.new-items.ensures.items, c.new-separators.ensures.items) (rest_one value_range_tree leaf c.args.first)) c.requires.from,
  rw (c.in_ok-push.ensures.items, c.new-items.ensures.items) (row_one c.args.first _ c.new-separators.ensures.items),
  omega arith,
)

pub operators::more_value_ranges-turns-preserved : goal.operators::more_value_ranges-turns-preserved
operators::more_value_ranges-turns-preserved t c = (
  keeps_on _ _ _ _ _ _ (pair (leaf c.turns.at) (value_range_tree c.in_ok-range.range)) _ _ c.turns.invariant.0 (rw c.in-Some.ensures.0 refl) (rw (c.in-Some.ensures.1, c.in_ok-range.ensures.tree) refl) (rw (c.in_ok-push-3.ensures.items, c.in_ok-push-2.ensures.items) (rest_push value_range_tree leaf c.args.first _ _ _ _ c.turns.invariant.1)) c.in_ok-range.ensures.end.1,
  rw (c.in_ok-push-3.ensures.items, c.in_ok-push-2.ensures.items) (row_push c.args.first _ _ _ _ c.turns.invariant.1),
  omega (arith, c.in-Some.ensures, c.in_ok-range.ensures.end, c.turns.invariant),
)

pub operators::more_value_ranges-returns-in_err-range-clause-tree : goal.operators::more_value_ranges-returns-in_err-range-clause-tree
operators::more_value_ranges-returns-in_err-range-clause-tree t c =
    let p = err_from_is_err_and c.from_residual-in_err-range.result c.from_residual-in_err-range.ensures.1 in
    rw (p.1, p.2) (keeps_fails _ _ _ _ _ _ c.turns.invariant.0 c.in_err-range.field-0.0 (rw c.in-Some.ensures.0 refl) (rw c.in-Some.ensures.1 (fails_later _ _ _ (reads c.args.tokens.now (symbol c.args.tokens.now (512 - c.args.depth)) value_range) c.in_err-range.ensures.tree)))

pub operators::more_value_ranges-returns-clause-tree : goal.operators::more_value_ranges-returns-clause-tree
operators::more_value_ranges-returns-clause-tree t c = keeps_end _ _ _ _ _ _ c.turns.invariant.0 (rw c.in_default.ensures refl) (rest_ended value_range_tree leaf c.args.first _ _ c.turns.invariant.1)

pub operators::more_value_ranges-returns-clause-first : goal.operators::more_value_ranges-returns-clause-first
operators::more_value_ranges-returns-clause-first t c = first_is value_range_tree c.args.first _ _ c.turns.invariant.1

pub operators::operations-levels-init : goal.operators::operations-levels-init
unfolding operations
operators::operations-levels-init t c = (c.in_ok-left.ensures.tree, omega (arith, c.in_ok-left.ensures.height), omega arith, c.in_ok-left.ensures.end.0, c.in_ok-left.ensures.end.1)

pub operators::operations-levels-preserved : goal.operators::operations-levels-preserved
operators::operations-levels-preserved t c = (
  level_reached c.args.tokens.now c.args.depth c.levels.done c.in-Some.next c.args.from c.levels.at c.levels.left.value _ _ (omega (arith, c.in-Some.ensures)) (omega (arith, c.in-Some.ensures, c.requires.level)) c.levels.invariant.1 c.levels.invariant.0 c.in-Some.ensures.3 c.in_ok-longer.ensures.tree,
  c.in_ok-longer.ensures.height,
  c.in-Some.ensures.1,
  omega (arith, c.levels.invariant, c.in_ok-longer.ensures.end),
  c.in_ok-longer.ensures.end.1,
)

pub operators::operations-returns-in_err-left-clause-tree : goal.operators::operations-returns-in_err-left-clause-tree
unfolding operations
operators::operations-returns-in_err-left-clause-tree t c =
    let p = err_from_is_err_and c.from_residual.result c.from_residual.ensures.1 in
    rw (p.1, p.2) (level_fails c.args.tokens.now c.args.depth c.args.from c.in_err-left.field-0.0 0 c.args.level (omega arith) c.in_err-left.ensures.tree)

pub operators::operations-returns-in_err-longer-clause-tree : goal.operators::operations-returns-in_err-longer-clause-tree
operators::operations-returns-in_err-longer-clause-tree t c =
    let p = err_from_is_err_and c.from_residual-in_err-longer.result c.from_residual-in_err-longer.ensures.1 in
    rw (p.1, p.2) (level_stops c.args.tokens.now c.args.depth c.levels.done c.in-Some.next c.args.level c.args.from c.levels.at c.levels.left.value c.in_err-longer.field-0.0 (omega (arith, c.in-Some.ensures)) c.in-Some.ensures.1 c.requires.level c.levels.invariant.1 c.levels.invariant.0 c.in-Some.ensures.3 c.in_err-longer.ensures.tree)

pub operators::operations-returns-clause-tree : goal.operators::operations-returns-clause-tree
operators::operations-returns-clause-tree t c = levels_pass c.args.tokens.now c.args.depth c.levels.done c.args.level c.args.from c.levels.at c.levels.left.value c.levels.invariant.2 c.requires.level c.levels.invariant.1 c.levels.invariant.0 c.in_default.ensures

pub operators::operations-returns-clause-height : goal.operators::operations-returns-clause-height
operators::operations-returns-clause-height t c = omega (arith, c.levels.invariant)

pub operators::chain-turns-init : goal.operators::chain-turns-init
operators::chain-turns-init t c = (chain_begins _ _ _ _ _ _ (rw c.new-items.ensures.items (ap (λ (t : Tree). pair (tree_at (c.args.level - 1) c.args.first.value) t) (repeated_nil operation_tree))) c.requires.from, omega arith, rw c.new-items.ensures.items refl, λ e. refl)

pub operators::chain-turns-preserved : goal.operators::chain-turns-preserved
operators::chain-turns-preserved t c = (
  keeps_on _ _ _ _ _ _ _ _ _ c.turns.invariant.0 (flip c.begins_operation.ensures ∘ c.turns-test.true) c.in_ok-item.ensures.tree (rw c.in_ok-push.ensures.items (ap (λ (t : Tree). pair (tree_at (c.args.level - 1) c.args.first.value) t) (repeated_push operation_tree _ _))) c.in_ok-item.ensures.end.1,
  omega (arith, c.in_ok-item.ensures.end, c.turns.invariant.1),
  rw c.in_ok-push.ensures.items (all_of_level_push _ _ _ c.turns.invariant.2 c.in_ok-item.ensures.level),
  λ e. absurd (some_push _ _ (flip (ap length c.in_ok-push.ensures.items) ∘ e)),
)

pub operators::chain-returns-in_err-item-clause-tree : goal.operators::chain-returns-in_err-item-clause-tree
operators::chain-returns-in_err-item-clause-tree t c =
    let p = err_from_is_err_and c.from_residual.result c.from_residual.ensures.1 in
    rw (p.1, p.2) (keeps_fails _ _ _ _ _ _ c.turns.invariant.0 c.in_err-item.field-0.0 (flip c.begins_operation.ensures ∘ c.turns-test.true) c.in_err-item.ensures.tree)

pub operators::chain-returns-clause-tree : goal.operators::chain-returns-clause-tree
operators::chain-returns-clause-tree t c =
    let n = chain_goes_on c.args.tokens.now c.args.from c.turns.at c.args.level c.turns.items.items c.requires.begins (flip c.begins_operation.ensures ∘ c.turns-test.false) c.turns.invariant.3 in
    keeps_end _ _ _ _ _ _ c.turns.invariant.0 (flip c.begins_operation.ensures ∘ c.turns-test.false) (ap (λ (t : Tree). pair (tree_at (c.args.level - 1) c.args.first.value) t) (repeated_ended operation_tree _))
    ∘ rw (c.in_ok-value.ensures.made, operations_expr c.args.level c.args.first c.turns.items c.turns.invariant.2 n) refl

pub operators::chain-returns-clause-end : goal.operators::chain-returns-clause-end
operators::chain-returns-clause-end t c = (moved_on c.args.tokens.now c.args.from c.turns.at c.args.level c.requires.begins (flip c.begins_operation.ensures ∘ c.turns-test.false) c.turns.invariant.1, c.turns.invariant.0.within)

pub operators::chain-returns-clause-height : goal.operators::chain-returns-clause-height
operators::chain-returns-clause-height t c =
    let n = chain_goes_on c.args.tokens.now c.args.from c.turns.at c.args.level c.turns.items.items c.requires.begins (flip c.begins_operation.ensures ∘ c.turns-test.false) c.turns.invariant.3 in
    rw c.in_ok-value.ensures.made (omega (arith, chain_level_is c.args.level c.args.first c.turns.items c.turns.invariant.2 n))

pub operators::operation-returns-in_err-right-clause-tree : goal.operators::operation-returns-in_err-right-clause-tree
operators::operation-returns-in_err-right-clause-tree t c =
    let p = err_from_is_err_and c.from_residual.result c.from_residual.ensures.1 in
    rw (p.1, p.2) (operation_fails c.args.tokens.now (512 - c.args.depth) c.args.level _ c.args.from c.in-Some.kind c.in_err-right.field-0.0 c.in-Some.ensures.found.0 (c.in-Some.ensures.found.1 _) c.in_err-right.ensures.tree)

pub operators::operation-returns-in-Some-clause-tree : goal.operators::operation-returns-in-Some-clause-tree
operators::operation-returns-in-Some-clause-tree t c =
    rw (binary_operation _ c.into_inner-right.result, c.into_inner-right.ensures, c.in-Some.ensures.level)
    (operation_reads c.args.tokens.now (512 - c.args.depth) c.args.level _ c.args.from c.in-Some.kind _ _ c.in-Some.ensures.found.0 (c.in-Some.ensures.found.1 _) c.in_ok-right.ensures.tree)

pub operators::operation-returns-clause-tree : goal.operators::operation-returns-clause-tree
operators::operation-returns-clause-tree t c =
    let m = operation_is_membership c.args.tokens.now (512 - c.args.depth) c.args.level (operations (c.args.level - 1)) c.args.from c.requires.begins c.in_default.ensures.found in
    rw m.1 c.membership.ensures.tree

pub operators::operation-returns-clause-level : goal.operators::operation-returns-clause-level
operators::operation-returns-clause-level t c =
    let m = operation_is_membership c.args.tokens.now (512 - c.args.depth) c.args.level (operations (c.args.level - 1)) c.args.from c.requires.begins c.in_default.ensures.found in
    rw m.0 c.membership.ensures.level

pub operators::boxed_expr-returns-in_err-right-clause-tree : goal.operators::boxed_expr-returns-in_err-right-clause-tree
unfolding rule
operators::boxed_expr-returns-in_err-right-clause-tree t c =
    let p = err_from_is_err_and c.from_residual-in_err-right.result c.from_residual-in_err-right.ensures.1 in
    rw (p.1, p.2, c.in_ok-depth.ensures.0) (implication_fails c.args.tokens.now (512 - c.in_ok-depth.depth) c.args.from c.in_ok-left.at _ _ c.in_ok-left.ensures.tree c.in-Some.ensures.0 (c.in-Some.ensures.1 _) c.in_err-right.field-0.0 c.in_err-right.ensures.tree)

pub operators::boxed_expr-returns-clause-tree : goal.operators::boxed_expr-returns-clause-tree
unfolding rule
operators::boxed_expr-returns-clause-tree t c =
    rw (c.in_ok-depth.ensures.0, c.in_ok-value.ensures.made, implication_expr c.in_ok-left.left _ c.in_ok-right.right)
    (implication_reads c.args.tokens.now (512 - c.in_ok-depth.depth) c.args.from c.in_ok-left.at _ _ c.in_ok-left.ensures.tree c.in-Some.ensures.0 (c.in-Some.ensures.1 _) _ _ c.in_ok-right.ensures.tree)

pub operands::sign_cast-returns-in_default-clause-tree : goal.operands::sign_cast-returns-in_default-clause-tree
operands::sign_cast-returns-in_default-clause-tree t c = rw (stops_here c.args.tokens.now (512 - c.args.depth) signing c.args.from c.in_default.ensures signing_full) refl

pub operands::typed_primary-returns-in_default-clause-tree : goal.operands::typed_primary-returns-in_default-clause-tree
unfolding typed_primary
operands::typed_primary-returns-in_default-clause-tree t c = rw (stops_here c.args.tokens.now (512 - c.args.depth) integer_type c.args.from c.in_default.ensures integer_type_full) refl

pub operands::primary-returns-in-Decimal-clause-tree : goal.operands::primary-returns-in-Decimal-clause-tree
operands::primary-returns-in-Decimal-clause-tree t c = rw (c.in-Decimal.ensures (512 - c.args.depth)) c.decimal.ensures.tree

pub operands::primary-returns-in-Parenthesized-clause-tree : goal.operands::primary-returns-in-Parenthesized-clause-tree
operands::primary-returns-in-Parenthesized-clause-tree t c = rw (c.in-Parenthesized.ensures (512 - c.args.depth)) c.parenthesized_operand.ensures.tree

pub operands::primary-returns-in-Concatenation-clause-tree : goal.operands::primary-returns-in-Concatenation-clause-tree
operands::primary-returns-in-Concatenation-clause-tree t c = rw (c.in-Concatenation.ensures (512 - c.args.depth)) c.concatenation.ensures.tree

pub operands::primary-returns-in-SignCast-clause-tree : goal.operands::primary-returns-in-SignCast-clause-tree
operands::primary-returns-in-SignCast-clause-tree t c = rw (c.in-SignCast.ensures (512 - c.args.depth)) c.sign_cast.ensures.tree

pub operands::primary-returns-in-Type-clause-tree : goal.operands::primary-returns-in-Type-clause-tree
operands::primary-returns-in-Type-clause-tree t c = rw (c.in-Type.ensures (512 - c.args.depth)) c.typed_primary.ensures.tree

pub operands::primary-returns-in-System-clause-tree : goal.operands::primary-returns-in-System-clause-tree
operands::primary-returns-in-System-clause-tree t c = rw (c.in-System.ensures (512 - c.args.depth)) c.system_call.ensures.tree
