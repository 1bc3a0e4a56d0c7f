-- The files of a revision with the history that made them (own).
use Rattle.std.specs.Prelude.{ℕ, ◌≡◌, length}
use Rattle.sve_text.specs.Files.{FilesValue}
use Rattle.sve_history.specs.Histories.{HistoryValue, IsOpening, newest_files}

pub record SnapshotValue : Type 0 where
  pub files : FilesValue
  pub revision : ℕ
  pub history : HistoryValue

-- the files are those of the last revision of the history, which has this number
pub record IsRevision (files : FilesValue) (revision : ℕ) (history : HistoryValue) : Type 0 where
  pub newest : files ≡ newest_files history
  pub last : revision ≡ length history.entries
  pub untouched : IsOpening history.opening
