use Rattle.std.proofs.Common.{◌≡◌, ◌++◌, ◌+◌, drop}
use Rattle.sve_report.specs.Lines.{text_of_lines}
use Rattle.sve_report.specs.Reports.{entry_lines}
use Rattle.sve_report.proofs.reporting.add_entries.Given as goal

-- the text so far and the lines of the entries that are left are the text with all lines
abbrev pub invariant-loop-i : goal.invariant-loop-i
invariant-loop-i l = l.text.items ++ text_of_lines (entry_lines (l.i + 1) (drop l.i l.entries)) ≡ l.initial.text.items ++ text_of_lines (entry_lines 1 l.entries)
