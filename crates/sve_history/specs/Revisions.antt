-- Revisions, each held as its commit and the files that it left.
use Rattle.std.specs.Prelude.{ℕ, ◌≡◌, ◌+◌, List, [], ◌∷◌, map}
use Rattle.sve_text.specs.Files.{FilesValue, files_after}
use Rattle.sve_history.specs.declared.entry.Entry.{Entry}
use Rattle.sve_history.specs.declared.revision.Revision.{Revision}
use Rattle.sve_history.specs.Histories.{IsOpening, IsLegal}

abbrev pub entries_in : List Revision → List Entry
entries_in revisions = map (λ revision. revision.entry) revisions

-- each revision behind revision r, which has these files, has the files that its commit leaves of those before it
abbrev pub HaveTheirFiles : ℕ → FilesValue → List Revision → Type 0
HaveTheirFiles r files [] = Unit {0}
HaveTheirFiles r files (revision ∷ revisions) = (revision.files ≡ files_after (r + 1) files revision.entry.edits) × HaveTheirFiles (r + 1) revision.files revisions

-- what a history keeps
pub record IsHistory (opening : FilesValue) (revisions : List Revision) : Type 0 where
  pub untouched : IsOpening opening
  pub files : HaveTheirFiles 0 opening revisions
  pub legal : IsLegal (record { opening = opening; entries = entries_in revisions })
