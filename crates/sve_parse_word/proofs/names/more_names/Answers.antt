use Rattle.std.proofs.Common.{refl, arith}
use Rattle.std.proofs.lemmas.Result.{err_from_is_err_and}
use Rattle.sve_token.specs.declared.kind.Kind.TheVariants.{Identifier}
use Rattle.sve_grammar.specs.Types.{more_identifiers}
use Rattle.sve_grammar.specs.Reading.{leaf, pair, token}
use Rattle.sve_grammar.proofs.Idle.{fails_later}
use Rattle.sve_grammar.proofs.Loops.{keeps_init, keeps_on, keeps_end, keeps_fails}
use Rattle.sve_tree.proofs.Shapes.{row_one, row_push, rest_one, rest_push, rest_ended, first_is}
use Rattle.sve_parse_word.proofs.names.more_names.Goals as goal

pub turns-init : goal.turns-init
unfolding more_identifiers
turns-init c = (
  keeps_init _ _ _ _ _ (rw (c.in_ok-push.ensures.items, c.new-items.ensures.items, c.new-separators.ensures.items) (rest_one leaf leaf c.args.first)) c.requires.from,
  rw (c.in_ok-push.ensures.items, c.new-items.ensures.items) (row_one c.args.first _ c.new-separators.ensures.items),
  omega arith,
)

pub turns-preserved : goal.turns-preserved
turns-preserved c = (
  keeps_on _ _ _ _ _ _ (pair (leaf c.turns.at) (leaf c.in-Some.name)) _ _ c.turns.invariant.0 (rw c.in-Some.ensures.0 refl) (rw (c.in-Some.ensures.1, c.in_ok-end.ensures.token) refl) (rw (c.in_ok-push-3.ensures.items, c.in_ok-push-2.ensures.items) (rest_push leaf leaf c.args.first _ _ _ _ c.turns.invariant.1)) c.in_ok-end.ensures.end.1,
  rw (c.in_ok-push-3.ensures.items, c.in_ok-push-2.ensures.items) (row_push c.args.first _ _ _ _ c.turns.invariant.1),
  omega (arith, c.in-Some.ensures, c.in_ok-end.ensures.end, c.turns.invariant),
)

pub returns-in_err-end-clause-tree : goal.returns-in_err-end-clause-tree
returns-in_err-end-clause-tree c =
    let p = err_from_is_err_and c.from_residual-in_err-end.result c.from_residual-in_err-end.ensures.1 in
    rw (p.1, p.2) (keeps_fails _ _ _ _ _ _ c.turns.invariant.0 c.in_err-end.field-0.0 (rw c.in-Some.ensures.0 refl) (rw c.in-Some.ensures.1 (fails_later _ _ _ (token c.args.tokens.now Identifier) c.in_err-end.ensures.token)))

pub returns-clause-tree : goal.returns-clause-tree
returns-clause-tree c = keeps_end _ _ _ _ _ _ c.turns.invariant.0 (rw c.in_default.ensures refl) (rest_ended leaf leaf c.args.first _ _ c.turns.invariant.1)

pub returns-clause-first : goal.returns-clause-first
returns-clause-first c = first_is leaf c.args.first _ _ c.turns.invariant.1
