use Rattle.std.proofs.Common.{◌≡◌, ◌-◌, ◌≤◌, ◌++◌, drop, length}
use Rattle.sve_report.specs.Lines.{lines_in, text_of_lines}
use Rattle.sve_report.proofs.answer_lines.Lines.into_list.Given as goal

-- the lines so far and those of the text that is left are all lines
abbrev pub invariant-lines : goal.invariant-lines
invariant-lines l = record {
  in_text : l.at ≤ length l.text.items;
  same : l.lines.items ++ lines_in (drop l.at l.text.items) ≡ lines_in l.text.items;
  whole : text_of_lines (lines_in (drop l.at l.text.items)) ≡ drop l.at l.text.items;
}

abbrev pub decreases-lines : goal.decreases-lines
decreases-lines l = length l.text.items - l.at
