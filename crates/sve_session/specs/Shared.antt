-- A log of commits, and the history that it makes of opening files and the edits of a table (own).
use Rattle.std.specs.Prelude.{List, map}
use Rattle.sve_board.specs.declared.knowledge.Entry.{Entry as LogEntry}
use Rattle.sve_text.specs.Files.{FilesValue}
use Rattle.sve_history.specs.declared.entry.Entry.{Entry}
use Rattle.sve_history.specs.Histories.{HistoryValue, Table, entry_by}

-- the entry of a commit in the log, with the edits that the table has for it
abbrev pub with_edits : Table → LogEntry → Entry
with_edits table entry = entry_by table entry.client entry.command

abbrev pub history_of : FilesValue → Table → List LogEntry → HistoryValue
history_of opening table log = record { opening = opening; entries = map (with_edits table) log }

-- the commit of an entry, without its edits
abbrev pub without_edits : Entry → LogEntry
without_edits entry = record { client = entry.client; command = entry.command }

abbrev pub log_of : List Entry → List LogEntry
log_of entries = map without_edits entries
