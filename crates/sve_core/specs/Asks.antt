-- What a client that begins is lent, and what its asks are told (own).
use Rattle.std.specs.Prelude.{ℕ, length, take}
use Rattle.sve_history.specs.Histories.{HistoryValue, newest_files}
use Rattle.sve_store.specs.declared.answer.Answer.{Answer}
use Rattle.sve_store.specs.declared.answer.Answer.TheVariants.{Done, Spent as Unanswered}
use Rattle.sve_store.specs.Snapshots.{SnapshotValue}
use Rattle.sve_core.specs.declared.commit.Outcome.{Outcome}
use Rattle.sve_core.specs.declared.commit.Outcome.TheVariants.{Answered, Spent}

-- a snapshot of the newest revision
abbrev pub snapshot_of : HistoryValue → SnapshotValue
snapshot_of history = record { files = newest_files history; revision = length history.entries; history = history }

-- the history as it was at revision r
abbrev pub history_at : HistoryValue → ℕ → HistoryValue
history_at history r = record { opening = history.opening; entries = take r history.entries }

-- what an ask with this answer is told
abbrev pub outcome_of : ℕ → Answer → Outcome
outcome_of budget (Done lines) = Answered lines
outcome_of budget Unanswered = Spent budget
