use Rattle.std.proofs.Common.{◌≡◌, ◌++◌, drop}
use Rattle.sve_report.specs.Lines.{text_of_lines}
use Rattle.sve_report.proofs.reporting.add_lines.Given as goal

-- the text so far and the lines that are left are the text with all lines
abbrev pub invariant-loop-line : goal.invariant-loop-line
invariant-loop-line l = l.text.items ++ text_of_lines (drop l.line-index l.lines) ≡ l.initial.text.items ++ text_of_lines l.lines
