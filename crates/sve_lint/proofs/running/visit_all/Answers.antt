use Rattle.sve_lint.proofs.Parts.{nothing_yet, one_more_seen, one_more_in_part, all_given, all_is_part}
use Rattle.sve_lint.proofs.running.visit_all.Goals as goal

pub instances-init : goal.instances-init
instances-init g c = nothing_yet _ _

pub returns-in_err-visit_one-clause-part : goal.returns-in_err-visit_one-clause-part
returns-in_err-visit_one-clause-part g c = one_more_in_part c.args.design.now c.instances.instance-index c.instance-item.result _ _ _ _ c.instances-test.true c.instance-item.is c.instances.invariant c.visit_one.ensures.part

pub instances-preserved : goal.instances-preserved
instances-preserved g c = one_more_seen c.args.design.now c.instances.instance-index c.instance-item.result _ _ _ _ c.instances-test.true c.instance-item.is c.instances.invariant c.in_ok-visit_one.ensures.seen

pub returns-clause-seen : goal.returns-clause-seen
returns-clause-seen g c = all_given _ c.args.design.now c.instances.instance-index _ _ c.instances-test.false c.instances.invariant

pub returns-clause-part : goal.returns-clause-part
returns-clause-part g c = all_is_part _ _ _ (all_given _ c.args.design.now c.instances.instance-index _ _ c.instances-test.false c.instances.invariant)
