use Rattle.std.proofs.Common.{◌-◌, refl, ◌∙◌ as ◌∘◌, arith}
use Rattle.std.proofs.lemmas.Result.{err_from_is_err_and}
use Rattle.sve_grammar.specs.declared.symbol.Symbol.TheVariants.{LeftSide}
use Rattle.sve_grammar.specs.Rule.{sym}
use Rattle.sve_grammar.specs.Reading.{reads, symbol}
use Rattle.sve_grammar.specs.Statements.{more_left_sides}
use Rattle.sve_grammar.proofs.Begins.{or_none}
use Rattle.sve_grammar.proofs.Idle.{fails_later}
use Rattle.sve_grammar.proofs.Loops.{keeps_init, keeps_on, keeps_end, keeps_fails}
use Rattle.sve_tree.proofs.Shapes.{row_one, row_push, rest_one, rest_push, rest_ended, first_is}
use Rattle.sve_parse_assign.proofs.left_sides.+left_side.Goals as goal

pub more_left_sides-turns-init : goal.more_left_sides-turns-init
unfolding more_left_sides
more_left_sides-turns-init t c = rw (c.in_ok-push.ensures.items, c.new-items.ensures.items, c.new-separators.ensures.items) (keeps_init _ _ _ _ _ (rest_one _ _ _) c.requires.from, row_one _ _ refl, omega arith)

pub more_left_sides-turns-preserved : goal.more_left_sides-turns-preserved
more_left_sides-turns-preserved t c =
    rw (c.in_ok-push-3.ensures.items, c.in_ok-push-2.ensures.items) (
      keeps_on _ _ _ _ _ _ _ _ _ c.turns.invariant.0 (or_none _ ∘ c.in-Some.ensures.0) (rw (c.in-Some.ensures.1, c.in_ok-item.ensures.tree) refl) (rest_push _ _ _ _ _ _ _ c.turns.invariant.1) c.in_ok-item.ensures.end.1,
      row_push _ _ _ _ _ c.turns.invariant.1,
      omega (arith, c.in-Some.ensures, c.in_ok-item.ensures.end, c.turns.invariant.2),
    )

pub more_left_sides-returns-in_err-item-clause-tree : goal.more_left_sides-returns-in_err-item-clause-tree
more_left_sides-returns-in_err-item-clause-tree t c =
    let p = err_from_is_err_and c.from_residual-in_err-item.result c.from_residual-in_err-item.ensures.1 in
    rw (p.1, p.2) (keeps_fails _ _ _ _ _ _ c.turns.invariant.0 c.in_err-item.field-0.0 (or_none _ ∘ c.in-Some.ensures.0) (rw c.in-Some.ensures.1 (fails_later _ _ _ (reads c.args.tokens.now (symbol c.args.tokens.now (512 - c.args.depth)) (sym LeftSide)) c.in_err-item.ensures.tree)))

pub more_left_sides-returns-clause-tree : goal.more_left_sides-returns-clause-tree
more_left_sides-returns-clause-tree t c = keeps_end _ _ _ _ _ _ c.turns.invariant.0 (or_none _ ∘ c.in_default.ensures) (rest_ended _ _ _ _ _ c.turns.invariant.1)

pub more_left_sides-returns-clause-first : goal.more_left_sides-returns-clause-first
more_left_sides-returns-clause-first t c = first_is _ _ _ _ c.turns.invariant.1
