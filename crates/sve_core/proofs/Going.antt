-- Histories that go on from others.
use Rattle.std.proofs.Common.{◌≡◌, ℕ, List, [], ◌++◌, drop, sym, ap, subst}
use Rattle.std.proofs.lemmas.List.{append-nil, take-append-drop}
use Rattle.sve_history.specs.declared.entry.Entry.{Entry}
use Rattle.sve_history.specs.Histories.{HistoryValue}
use Rattle.sve_kept.specs.Kept.{GoesOn}
use Rattle.sve_core.specs.Asks.{history_at}

-- the history with these entries
abbrev with_entries : HistoryValue → List Entry → HistoryValue
with_entries history entries = record { opening = history.opening; entries = entries }

-- a history goes on from itself
goes_nowhere : (history : HistoryValue) → GoesOn history history
goes_nowhere history = record { more = []; is = ap (with_entries history) (sym (append-nil history.entries)) }

pub goes_equal : (earlier later : HistoryValue) → earlier ≡ later → GoesOn earlier later
goes_equal earlier later same = subst (GoesOn earlier) same (goes_nowhere earlier)

-- from what it was at a revision
pub goes_on_from : (history : HistoryValue) (r : ℕ) → GoesOn (history_at history r) history
goes_on_from history r = record { more = drop r history.entries; is = ap (with_entries history) (sym (take-append-drop r history.entries)) }
