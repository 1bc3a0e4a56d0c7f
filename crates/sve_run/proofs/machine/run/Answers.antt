-- One lemma for each way of a step; what was reached is kept, and less is left.
use Rattle.std.proofs.Common.{refl, arith}
use Rattle.std.proofs.lemmas.List.{nil_from_length}
use Rattle.sve_run.proofs.Stack.{reached_start, after_token, after_nothing, after_one, after_two, after_stop, ended_all, ended_early}
use Rattle.sve_run.proofs.Verdicts.{only_one, is_judged}
use Rattle.sve_run.proofs.machine.run.Goals as goal

pub steps-init : goal.steps-init
steps-init c = rw (c.in_ok-push.ensures.items, c.new-stack.ensures.items) (reached_start _ _ (rw (c.of.ensures.part, c.of.ensures.depth) refl))

pub steps-preserved-in-Token : goal.steps-preserved-in-Token
steps-preserved-in-Token c = (after_token _ _ _ _ _ c.steps.invariant c.in-Some.ensures.items c.in-Token.ensures).reached

pub steps-smaller-in-Token : goal.steps-smaller-in-Token
steps-smaller-in-Token c = (after_token _ _ _ _ _ c.steps.invariant c.in-Some.ensures.items c.in-Token.ensures).less

pub steps-preserved-in-Nothing : goal.steps-preserved-in-Nothing
steps-preserved-in-Nothing c = (after_nothing _ _ _ _ _ c.steps.invariant c.in-Some.ensures.items c.in-Nothing.ensures).reached

pub steps-smaller-in-Nothing : goal.steps-smaller-in-Nothing
steps-smaller-in-Nothing c = (after_nothing _ _ _ _ _ c.steps.invariant c.in-Some.ensures.items c.in-Nothing.ensures).less

pub steps-preserved-in-Continue-branch-2 : goal.steps-preserved-in-Continue-branch-2
steps-preserved-in-Continue-branch-2 c = rw (c.in_ok-push-in-One.ensures.items) (after_one _ _ _ _ _ c.steps.invariant c.in-Some.ensures.items _ c.in-One.ensures).reached

pub steps-smaller-in-Continue-branch-2 : goal.steps-smaller-in-Continue-branch-2
steps-smaller-in-Continue-branch-2 c = rw (c.in_ok-push-in-One.ensures.items) (after_one _ _ _ _ _ c.steps.invariant c.in-Some.ensures.items _ c.in-One.ensures).less

pub steps-preserved : goal.steps-preserved
steps-preserved c = rw (c.in_ok-push-in-Two-2.ensures.items, c.in_ok-push-in-Two.ensures.items) (after_two _ _ _ _ _ c.steps.invariant c.in-Some.ensures.items _ _ c.in-Two.ensures).reached

pub steps-smaller : goal.steps-smaller
steps-smaller c = rw (c.in_ok-push-in-Two-2.ensures.items, c.in_ok-push-in-Two.ensures.items) (after_two _ _ _ _ _ c.steps.invariant c.in-Some.ensures.items _ _ c.in-Two.ensures).less

pub returns-in-Stop-clause-machine : goal.returns-in-Stop-clause-machine
returns-in-Stop-clause-machine c = only_one _ _ (after_stop _ _ _ _ _ c.steps.invariant c.in-Some.ensures.items _ c.in-Stop.ensures)

pub returns-in-Stop-clause-reading : goal.returns-in-Stop-clause-reading
returns-in-Stop-clause-reading c = is_judged _ _ (after_stop _ _ _ _ _ c.steps.invariant c.in-Some.ensures.items _ c.in-Stop.ensures)

pub returns-then-at-tokens-clause-machine : goal.returns-then-at-tokens-clause-machine
returns-then-at-tokens-clause-machine c = only_one _ _ (ended_all _ _ _ c.steps.invariant (nil_from_length _ (omega (arith, c.in_default.ensures.cases, c.steps.stack.ok))) c.if-at-tokens.true)

pub returns-then-at-tokens-clause-reading : goal.returns-then-at-tokens-clause-reading
returns-then-at-tokens-clause-reading c = is_judged _ _ (ended_all _ _ _ c.steps.invariant (nil_from_length _ (omega (arith, c.in_default.ensures.cases, c.steps.stack.ok))) c.if-at-tokens.true)

pub returns-clause-machine : goal.returns-clause-machine
returns-clause-machine c = only_one _ _ (ended_early _ _ _ c.steps.invariant (nil_from_length _ (omega (arith, c.in_default.ensures.cases, c.steps.stack.ok))) c.if-at-tokens.false)

pub returns-clause-reading : goal.returns-clause-reading
returns-clause-reading c = is_judged _ _ (ended_early _ _ _ c.steps.invariant (nil_from_length _ (omega (arith, c.in_default.ensures.cases, c.steps.stack.ok))) c.if-at-tokens.false)
