-- What holds of the definitions of histories: which revision a commit makes, what it leaves alone, and what stamps tell.
use Rattle.std.specs.Prelude.{ℕ, ◌≡◌, ◌+◌, ◌≤◌, List, [], ◌∷◌, ◌++◌, length}
use Rattle.sve_text.specs.Rows.{row_of, stamp_of}
use Rattle.sve_text.specs.Files.{FilesValue, files_after, opening_files}
use Rattle.sve_text.specs.Laws.{HaveSameNames}
use Rattle.sve_history.specs.declared.entry.Entry.{Entry}
use Rattle.sve_history.specs.Histories.{IsOpening, files_at}

-- an entry makes the next revision, of the files that were newest before it
abbrev pub EntryMakesTheNextRevision : Type 0
EntryMakesTheNextRevision =
    (opening : FilesValue) (entries : List Entry) (e : Entry) →
    files_at opening (entries ++ e ∷ []) (length entries + 1) ≡ files_after (length entries + 1) (files_at opening entries (length entries)) e.edits

-- further entries leave each earlier revision as it was
abbrev pub EarlierRevisionsStay : Type 0
EarlierRevisionsStay =
    (opening : FilesValue) (entries more : List Entry) (r : ℕ) → r ≤ length entries →
    files_at opening (entries ++ more) r ≡ files_at opening entries r

-- the stamp of a name is a revision that is not later, and at it the name has what it has now
abbrev pub StampsTellRevisions : Type 0
StampsTellRevisions =
    (opening : FilesValue) (entries : List Entry) (r : ℕ) (name : List ℕ) → IsOpening opening → r ≤ length entries →
    let stamp = stamp_of (files_at opening entries r).rows name in
    (stamp ≤ r) × (row_of (files_at opening entries stamp).rows name ≡ row_of (files_at opening entries r).rows name)

-- the stamp of the set of names is a revision that is not later, and at it the same names are there as now
abbrev pub NamesStampTellsARevision : Type 0
NamesStampTellsARevision =
    (opening : FilesValue) (entries : List Entry) (r : ℕ) → IsOpening opening → r ≤ length entries →
    let stamp = (files_at opening entries r).names_stamp in
    (stamp ≤ r) × ((files_at opening entries stamp).names_stamp ≡ stamp) × HaveSameNames (files_at opening entries stamp).rows (files_at opening entries r).rows

-- no commit has touched the opening files of a session
abbrev pub OpeningFilesAreUntouched : Type 0
OpeningFilesAreUntouched = (files : List (List ℕ × List ℕ)) → IsOpening (opening_files files)
