use Rattle.std.proofs.Common.{refl, arith}
use Rattle.sve_lint.proofs.Turns.{next_is_through, next_has_part, all_are_through, all_have_parts}
use Rattle.sve_lint.proofs.running.run.Goals as goal

pub rules-init : goal.rules-init
rules-init g c = refl

pub returns-in_err-visit_all-clause-part : goal.returns-in_err-visit_all-clause-part
returns-in_err-visit_all-clause-part g c = next_has_part _ c.args.design.now c.rules.rule-index c.args.rules.now c.rules.rules c.rule-item.result c.visit_all.new.rule (omega arith) c.rules.invariant c.visit_all.ensures.part

pub rules-preserved : goal.rules-preserved
rules-preserved g c = next_is_through _ c.args.design.now c.rules.rule-index c.args.rules.now c.rules.rules c.rule-item.result c.visit_all.new.rule (omega arith) c.rules.invariant c.in_ok-visit_all.ensures.seen

pub returns-clause-seen : goal.returns-clause-seen
returns-clause-seen g c = all_are_through _ c.args.design.now c.rules.rule-index c.args.rules.now c.rules.rules (omega arith) c.rules.invariant

pub returns-clause-part : goal.returns-clause-part
returns-clause-part g c = all_have_parts _ _ _ (all_are_through _ c.args.design.now c.rules.rule-index c.args.rules.now c.rules.rules (omega arith) c.rules.invariant)
