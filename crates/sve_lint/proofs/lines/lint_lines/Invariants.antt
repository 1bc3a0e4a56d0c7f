use Rattle.std.proofs.Common.{◌≡◌, map, take}
use Rattle.std.specs.List.{flat_map}
use Rattle.sve_lint.specs.Lines.{rule_lines}
use Rattle.sve_lint.proofs.lines.lint_lines.Given as goal

abbrev pub invariant-rules : goal.invariant-rules
invariant-rules g l = l.lines.items ≡ flat_map rule_lines (map (λ b. (goal.Rule-dyn g (b.vtable, b.value)).state b.value) (take l.rule-index l.rules))
