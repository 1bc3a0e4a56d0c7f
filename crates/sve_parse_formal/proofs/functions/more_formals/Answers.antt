use Rattle.std.proofs.Common.{◌-◌, refl, ◌∙◌ as ◌∘◌, arith}
use Rattle.std.proofs.lemmas.Result.{err_from_is_err_and}
use Rattle.sve_grammar.specs.Statements.{formal, more_formals}
use Rattle.sve_grammar.specs.Reading.{reads, symbol}
use Rattle.sve_grammar.proofs.Begins.{or_none}
use Rattle.sve_grammar.proofs.Idle.{fails_later}
use Rattle.sve_grammar.proofs.Loops.{keeps_init, keeps_on, keeps_end, keeps_fails}
use Rattle.sve_tree.proofs.Shapes.{row_one, row_push, rest_one, rest_push, rest_ended}
use Rattle.sve_parse_formal.proofs.functions.more_formals.Goals as goal

pub turns-init : goal.turns-init
unfolding more_formals
turns-init c = rw (c.in_ok-push.ensures.items, c.new-items.ensures.items, c.new-separators.ensures.items) (keeps_init _ _ _ _ _ (rest_one _ _ _) c.requires.from, row_one _ _ refl, omega arith)

pub turns-preserved : goal.turns-preserved
turns-preserved c =
    rw (c.in_ok-push-3.ensures.items, c.in_ok-push-2.ensures.items) (
      keeps_on _ _ _ _ _ _ _ _ _ c.turns.invariant.0 (or_none _ ∘ c.in-Some.ensures.0) (rw (c.in-Some.ensures.1, c.in_ok-item.ensures.tree) refl) (rest_push _ _ _ _ _ _ _ c.turns.invariant.1) c.in_ok-item.ensures.end.1,
      row_push _ _ _ _ _ c.turns.invariant.1,
      omega (arith, c.in-Some.ensures, c.in_ok-item.ensures.end, c.turns.invariant.2),
    )

pub returns-in_err-item-clause-tree : goal.returns-in_err-item-clause-tree
returns-in_err-item-clause-tree c =
    let p = err_from_is_err_and c.from_residual-in_err-item.result c.from_residual-in_err-item.ensures.1 in
    rw (p.1, p.2) (keeps_fails _ _ _ _ _ _ c.turns.invariant.0 c.in_err-item.field-0.0 (or_none _ ∘ c.in-Some.ensures.0) (rw c.in-Some.ensures.1 (fails_later _ _ _ (reads c.args.tokens.now (symbol c.args.tokens.now (512 - c.args.depth)) formal) c.in_err-item.ensures.tree)))

pub returns-clause-tree : goal.returns-clause-tree
returns-clause-tree c = keeps_end _ _ _ _ _ _ c.turns.invariant.0 (or_none _ ∘ c.in_default.ensures) (rest_ended _ _ _ _ _ c.turns.invariant.1)

pub returns-clause-first : goal.returns-clause-first
returns-clause-first c = c.turns.invariant.1
