use Rattle.std.specs.List.{flat_map}
use Rattle.std.proofs.Common.{drop}
use Rattle.sve_lint.specs.Rules.{RuleState, HasAllBut}
use Rattle.sve_lint.proofs.running.visit_all.Given as goal

-- all was found but what the instances that are left give
abbrev pub invariant-instances : goal.invariant-instances
invariant-instances g l =
    let old : RuleState = (goal.Rule-dyn g (l.initial.rule.vtable, l.initial.rule.value)).state l.initial.rule.value in
    let now : RuleState = (goal.Rule-dyn g (l.rule.vtable, l.rule.value)).state l.rule.value in
    HasAllBut (flat_map old.meaning (drop l.instance-index l.design)) (flat_map old.meaning l.design) old now
