-- What one commit leaves, and what it is told (own).
use Rattle.std.specs.Prelude.{◌+◌, List, [], ◌∷◌, ◌++◌, length, Option, Some, None}
use Rattle.sve_text.specs.declared.why.Refusal.{Refusal}
use Rattle.sve_history.specs.declared.entry.Entry.{Entry}
use Rattle.sve_history.specs.Histories.{HistoryValue}
use Rattle.sve_memo.specs.Memos.{MemoValue}
use Rattle.sve_core.specs.declared.commit.Commit.{Commit}
use Rattle.sve_core.specs.declared.commit.Commit.TheVariants.{Accepted, Refused}

-- what clients share: the history, and what was found for keys
pub record CoreValue (K V : Type 0) : Type 0 where
  pub history : HistoryValue
  pub memos : List (MemoValue K V)

-- the history after a commit that is this entry, unless it is refused
abbrev pub committed : HistoryValue → Entry → Option Refusal → HistoryValue
committed history entry None = record history { entries = history.entries ++ entry ∷ [] }
committed history entry (Some refusal) = history

-- what a commit is told at the newest revision of a history
abbrev pub commit_told : HistoryValue → Option Refusal → Commit
commit_told history None = Accepted (length history.entries + 1)
commit_told history (Some refusal) = Refused (length history.entries) refusal.edit refusal.why
