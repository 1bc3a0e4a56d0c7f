use Rattle.std.proofs.Common.{sym as flip, ◌∙◌ as ◌∘◌, arith}
use Rattle.std.proofs.lemmas.Result.{err_from_is_err_and}
use Rattle.sve_grammar.specs.Types.{members}
use Rattle.sve_grammar.proofs.Loops.{keeps_init, keeps_on, keeps_end, keeps_fails}
use Rattle.sve_tree.proofs.Shapes.{first_one, first_stays, first_seen, others_one, others_push, others_ended}
use Rattle.sve_parse_type.proofs.structures.+data_type.Goals as goal

pub more_members-turns-init : goal.more_members-turns-init
unfolding members
more_members-turns-init t c = rw (c.in_ok-push.ensures.items, c.new-items.ensures.items) (keeps_init _ _ _ _ _ (others_one _ _) c.requires.from, first_one _, omega arith)

pub more_members-turns-preserved : goal.more_members-turns-preserved
more_members-turns-preserved t c =
    rw c.in_ok-push-2.ensures.items (
      keeps_on _ _ _ _ _ _ _ _ _ c.turns.invariant.0 (flip c.member_here.ensures ∘ c.turns-test.true) c.in_ok-item.ensures.tree (others_push _ _ _ _ c.turns.invariant.1) c.in_ok-item.ensures.end.1,
      first_stays _ _ _ c.turns.invariant.1,
      omega (arith, c.in_ok-item.ensures.end, c.turns.invariant.2),
    )

pub more_members-returns-in_err-item-clause-tree : goal.more_members-returns-in_err-item-clause-tree
more_members-returns-in_err-item-clause-tree t c =
    let p = err_from_is_err_and c.from_residual-in_err-item.result c.from_residual-in_err-item.ensures.1 in
    rw (p.1, p.2) (keeps_fails _ _ _ _ _ _ c.turns.invariant.0 c.in_err-item.field-0.0 (flip c.member_here.ensures ∘ c.turns-test.true) c.in_err-item.ensures.tree)

pub more_members-returns-clause-tree : goal.more_members-returns-clause-tree
more_members-returns-clause-tree t c = keeps_end _ _ _ _ _ _ c.turns.invariant.0 (flip c.member_here.ensures ∘ c.turns-test.false) (others_ended _ _ _ c.turns.invariant.1)

pub more_members-returns-clause-first : goal.more_members-returns-clause-first
more_members-returns-clause-first t c = first_seen _ _ _ c.turns.invariant.1
