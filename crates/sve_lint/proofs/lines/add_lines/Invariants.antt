use Rattle.std.proofs.Common.{◌≡◌, ◌++◌, map, take}
use Rattle.sve_lint.specs.Lines.{finding_line}
use Rattle.sve_lint.proofs.lines.add_lines.Given as goal

abbrev pub invariant-findings : goal.invariant-findings
invariant-findings l = l.lines.items ≡ l.initial.lines.items ++ map (finding_line l.rule) (take l.finding-index l.findings)
