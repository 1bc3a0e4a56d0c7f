use Rattle.std.proofs.Common.{map}
use Rattle.sve_lint.proofs.Turns.{Through}
use Rattle.sve_lint.proofs.running.run.Given as goal

-- those before this one have seen the whole design, and the others are as they were
abbrev pub invariant-rules : goal.invariant-rules
invariant-rules g l =
    Through l.design l.rule-index (map (λ b. (goal.Rule-dyn g (b.vtable, b.value)).state b.value) l.initial.rules) (map (λ b. (goal.Rule-dyn g (b.vtable, b.value)).state b.value) l.rules)
