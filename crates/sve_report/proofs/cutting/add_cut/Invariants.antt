use Rattle.std.proofs.Common.{◌≡◌, ◌+◌, ◌-◌, ◌≤◌, ◌++◌, drop, length}
use Rattle.sve_report.specs.Cutting.{with_bars, line_feeds}
use Rattle.sve_report.proofs.cutting.add_cut.Given as goal

-- what the runs that are left add to the text and to the count is what all of the piece adds behind the first bar
abbrev pub invariant-runs : goal.invariant-runs
invariant-runs l = record {
  in_piece : l.at ≤ length l.piece;
  written : l.text.items ++ with_bars (drop l.at l.piece) ≡ l.initial.text.items ++ with_bars l.piece;
  counted : l.count + line_feeds (drop l.at l.piece) ≡ line_feeds l.piece;
  few : l.count ≤ l.at;
}

abbrev pub decreases-runs : goal.decreases-runs
decreases-runs l = length l.piece - l.at
