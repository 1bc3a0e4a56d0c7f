use Rattle.std.proofs.Common.{◌≡◌, ◌++◌, ◌+◌, drop}
use Rattle.sve_report.specs.Lines.{text_of_lines}
use Rattle.sve_report.specs.Reports.{client_lines}
use Rattle.sve_report.proofs.reporting.add_records.Given as goal

-- the text so far and the lines of the records that are left are the text with all lines
abbrev pub invariant-loop-j : goal.invariant-loop-j
invariant-loop-j l = l.text.items ++ text_of_lines (client_lines (l.j + 1) (drop l.j l.records)) ≡ l.initial.text.items ++ text_of_lines (client_lines 1 l.records)
