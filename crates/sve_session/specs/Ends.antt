-- The history of a session that has ended (own).
use Rattle.std.specs.Prelude.{ℕ, ◌≡◌, ◌≤◌, length}
use mathlib.Core.List.{IsPrefix}
use Rattle.sve_board.specs.Log.{AreOfClients, entries_of, largest}
use Rattle.sve_board.specs.Values.{PassValue}
use Rattle.sve_text.specs.Files.{FilesValue}
use Rattle.sve_history.specs.Histories.{HistoryValue, Table, IsLegal}
use Rattle.sve_session.specs.Shared.{history_of, log_of}

-- it is legal, has the opening files of the session and the edits of its table, and each entry is of one of the clients
pub record IsEnded (opening : FilesValue) (table : Table) (clients : ℕ) (history : HistoryValue) : Type 0 where
  pub plan : history ≡ history_of opening table (log_of history.entries)
  pub legal : IsLegal history
  pub theirs : AreOfClients clients (log_of history.entries)

-- what the pass has seen begins the history, no look is above its length, and its client's entries are those of the pass
pub record EndsPass (history : HistoryValue) (pass : PassValue) : Type 0 where
  pub seen : IsPrefix pass.seen (log_of history.entries)
  pub looks : largest pass.looks ≤ length history.entries
  pub mine : entries_of pass.number (log_of history.entries) ≡ pass.mine
