-- A history: the commits that were accepted, in order, and the files that they leave (own).
use Rattle.std.specs.Prelude.{ℕ, ◌≡◌, ◌+◌, ◌<◌, List, [], ◌∷◌, None, length, take, map, filter, nat_eq}
use Rattle.sve_text.specs.declared.edit.Edit.{Edit}
use Rattle.sve_text.specs.Rows.{stamp_of}
use Rattle.sve_text.specs.Files.{FilesValue, files_after}
use Rattle.sve_text.specs.Refusals.{refusal_of}
use Rattle.sve_history.specs.declared.entry.Entry.{Entry}

pub record HistoryValue : Type 0 where
  pub opening : FilesValue
  pub entries : List Entry

-- no commit has touched the files: each name has stamp 0, and so has the set of the names that are there
pub record IsOpening (files : FilesValue) : Type 0 where
  pub names : (name : List ℕ) → stamp_of files.rows name ≡ 0
  pub set : files.names_stamp ≡ 0

-- the files of revision r and the entries after it give the files after the last of these
abbrev pub files_from : ℕ → FilesValue → List Entry → FilesValue
files_from r files [] = files
files_from r files (entry ∷ entries) = files_from (r + 1) (files_after (r + 1) files entry.edits) entries

-- the files of revision r: the opening files, and what the first r entries leave of them
abbrev pub files_at : FilesValue → List Entry → ℕ → FilesValue
files_at opening entries r = files_from 0 opening (take r entries)

-- the files of the newest revision, which is numbered by the length of the history
abbrev pub newest_files : HistoryValue → FilesValue
newest_files history = files_at history.opening history.entries (length history.entries)

-- no entry's edits were refused on the files before it
abbrev pub AreMet : ℕ → FilesValue → List Entry → Type 0
AreMet r files [] = Unit {0}
AreMet r files (entry ∷ entries) = (refusal_of files entry.edits ≡ None) × AreMet (r + 1) (files_after (r + 1) files entry.edits) entries

-- the commands of one client, in the order of the history
abbrev pub commands_of : ℕ → List Entry → List ℕ
commands_of client entries = map (λ entry. entry.command) (filter (λ entry. nat_eq entry.client client) entries)

-- each number is above the one before, and the first is above this one
abbrev pub RisesFrom : ℕ → List ℕ → Type 0
RisesFrom n [] = Unit {0}
RisesFrom n (m ∷ ms) = (n < m) × RisesFrom m ms

-- each number is above the one before
abbrev pub IsRising : List ℕ → Type 0
IsRising [] = Unit {0}
IsRising (n ∷ ns) = RisesFrom n ns

-- no entry's edits were refused where it stands, and the commands of each client rise
pub record IsLegal (history : HistoryValue) : Type 0 where
  pub met : AreMet 0 history.opening history.entries
  pub rising : (client : ℕ) → IsRising (commands_of client history.entries)

-- the edits of each client's each command; clients and commands count from 1
abbrev pub Table : Type 0
Table = ℕ → ℕ → List Edit

-- the entry of a client's command, with the edits that a table has for it
abbrev pub entry_by : Table → ℕ → ℕ → Entry
entry_by table client command = record { client = client; command = command; edits = table client command }
