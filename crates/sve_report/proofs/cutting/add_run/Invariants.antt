use Rattle.std.proofs.Common.{◌≡◌, ◌+◌, ◌-◌, ◌≤◌, ◌++◌, drop, length}
use Rattle.sve_report.specs.Cutting.{with_bars, line_feeds}
use Rattle.sve_report.proofs.cutting.add_run.Given as goal

-- what the bytes that are left add to the text and to the count is what all bytes add to the first ones
abbrev pub invariant-lines : goal.invariant-lines
invariant-lines l = record {
  in_run : l.at ≤ length l.run;
  few : l.count ≤ l.at;
  written : l.text.items ++ with_bars (drop l.at l.run) ≡ l.initial.text.items ++ with_bars l.run;
  counted : l.count + line_feeds (drop l.at l.run) ≡ line_feeds l.run;
}

abbrev pub decreases-lines : goal.decreases-lines
decreases-lines l = length l.run - l.at
