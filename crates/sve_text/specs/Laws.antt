-- What holds of the definitions of rows and edits, in the words of files: who is touched, and what stays.
use Rattle.std.specs.Prelude.{◌≡◌, ◌≢◌, ◌↔◌, ◌⊎◌, ◌+◌, ◌≤◌, ℕ, List, [], ◌∷◌, ◌++◌, length, take, drop, Some, None, IsTrue, Contains, All, fold, filter}
use Rattle.std.specs.Ordering.{is_eq}
use Rattle.sve_text.specs.declared.edit.Edit.{Edit}
use Rattle.sve_text.specs.declared.edit.Edit.TheVariants.{Drop}
use Rattle.sve_text.specs.declared.edit.TheConstants.{MAX_FILES}
use Rattle.sve_text.specs.declared.why.Refusal.{Refusal}
use Rattle.sve_text.specs.Rows.{Row, name_cmp, row_of, text_of, stamp_of, is_there, count, put_row, IsInOrder, RowsFit}
use Rattle.sve_rope.specs.Splice.{spliced}
use Rattle.sve_text.specs.Files.{name_of, text_after, edited, rows_after, keep_names, FilesValue, files_after, opening_rows, HaveDistinctNames}
use Rattle.sve_text.specs.Refusals.{reason_behind, refusal_of}

-- a row that is put is found at its name, and every other name has what it had
abbrev pub PutChangesOneName : Type 0
PutChangesOneName =
    (new : Row) (rows : List Row) →
    (row_of (put_row new rows) new.name ≡ Some new)
    × ((name : List ℕ) → name ≢ new.name → row_of (put_row new rows) name ≡ row_of rows name)

-- rows in order stay in order
abbrev pub PutKeepsOrder : Type 0
PutKeepsOrder = (new : Row) (rows : List Row) → IsInOrder rows → IsInOrder (put_row new rows)

-- an edit gives its name the new text and the revision's stamp, and leaves every other name as it was
abbrev pub EditChangesOneName : Type 0
EditChangesOneName =
    (r : ℕ) (rows : List Row) (e : Edit) →
    (text_of (edited r rows e) (name_of e) ≡ text_after (text_of rows (name_of e)) e)
    × (stamp_of (edited r rows e) (name_of e) ≡ r)
    × ((name : List ℕ) → name ≢ name_of e → text_of (edited r rows e) name ≡ text_of rows name)
    × ((name : List ℕ) → name ≢ name_of e → stamp_of (edited r rows e) name ≡ stamp_of rows name)

-- some edit touches the name
abbrev pub Touches : List Edit → List ℕ → Type 0
Touches [] name = ⊥
Touches (e ∷ es) name = (name ≡ name_of e) ⊎ Touches es name

-- after a commit each name that it touches has its stamp, and every other name has what it had
abbrev pub CommitStampsItsNames : Type 0
CommitStampsItsNames =
    (r : ℕ) (rows : List Row) (edits : List Edit) (name : List ℕ) →
    (Touches edits name → stamp_of (rows_after r rows edits) name ≡ r)
    × (¬ Touches edits name → row_of (rows_after r rows edits) name ≡ row_of rows name)

-- after a commit each file is what the edits of its own name make of it, in their order
abbrev pub EachFileIsItsEdits : Type 0
EachFileIsItsEdits =
    (r : ℕ) (rows : List Row) (edits : List Edit) (name : List ℕ) →
    text_of (rows_after r rows edits) name
    ≡ fold text_after (text_of rows name) (filter (λ e. is_eq (name_cmp name (name_of e))) edits)

-- a commit leaves rows in order
abbrev pub CommitKeepsOrder : Type 0
CommitKeepsOrder = (r : ℕ) (rows : List Row) (edits : List Edit) → IsInOrder rows → IsInOrder (rows_after r rows edits)

-- the same names are there
abbrev pub HaveSameNames : List Row → List Row → Type 0
HaveSameNames before after = (name : List ℕ) → is_there before name ≡ is_there after name

-- the test of the touched names alone tells whether a commit leaves the set of all names as it was
abbrev pub KeptNamesAreAllNames : Type 0
KeptNamesAreAllNames =
    (r : ℕ) (rows : List Row) (edits : List Edit) →
    IsTrue (keep_names rows (rows_after r rows edits) edits) ↔ HaveSameNames rows (rows_after r rows edits)

-- the stamp of the set of names is the revision whose commit last left another set than it found
abbrev pub NamesStampTellsTheSet : Type 0
NamesStampTellsTheSet =
    (r : ℕ) (files : FilesValue) (edits : List Edit) →
    (HaveSameNames files.rows (files_after r files edits).rows → (files_after r files edits).names_stamp ≡ files.names_stamp)
    × (¬ HaveSameNames files.rows (files_after r files edits).rows → (files_after r files edits).names_stamp ≡ r)

-- opening files are there with their texts and with stamp 0, no other name is there, and the rows are in order
abbrev pub OpeningFilesAreThere : Type 0
OpeningFilesAreThere =
    (files : List (List ℕ × List ℕ)) → HaveDistinctNames files →
    ((file : List ℕ × List ℕ) → Contains files file → row_of (opening_rows [] files) file.0 ≡ Some (record { name = file.0; text = Some file.1; stamp = 0 }))
    × ((name : List ℕ) → All (λ file. file.0 ≢ name) files → row_of (opening_rows [] files) name ≡ None)
    × IsInOrder (opening_rows [] files)

-- a drop takes its file away and gives its name the revision's stamp, and nothing else changes
abbrev pub DropTakesAway : Type 0
DropTakesAway =
    (r : ℕ) (rows : List Row) (name : List ℕ) →
    (text_of (edited r rows (Drop name)) name ≡ None)
    × (stamp_of (edited r rows (Drop name)) name ≡ r)
    × ((other : List ℕ) → other ≢ name → row_of (edited r rows (Drop name)) other ≡ row_of rows other)

-- a splice leaves what stands before the bytes that it cuts, then its own bytes, then what stands behind those that it cuts
abbrev pub SpliceChangesItsBytes : Type 0
SpliceChangesItsBytes =
    (offset cut : ℕ) (new text : List ℕ) → offset + cut ≤ length text →
    (take offset (spliced offset cut new text) ≡ take offset text)
    × (take (length new) (drop offset (spliced offset cut new text)) ≡ new)
    × (drop (offset + length new) (spliced offset cut new text) ≡ drop (offset + cut) text)

-- a refused commit is told an edit that has this reason behind the earlier ones, which are not refused
abbrev pub RefusalIsTheFirst : Type 0
RefusalIsTheFirst =
    (files : FilesValue) (edits : List Edit) (refusal : Refusal) → refusal_of files edits ≡ Some refusal →
    (e : Edit) × (later : List Edit) × (earlier : List Edit)
    × (edits ≡ earlier ++ e ∷ later)
    × (refusal.edit ≡ length earlier + 1)
    × (reason_behind files.rows earlier e ≡ Some refusal.why)
    × (refusal_of files earlier ≡ None)

-- no edit of a commit that is not refused has a reason behind the earlier ones
abbrev pub NoneIsRefused : Type 0
NoneIsRefused =
    (files : FilesValue) (edits : List Edit) → refusal_of files edits ≡ None →
    (e : Edit) (later earlier : List Edit) → edits ≡ earlier ++ e ∷ later → reason_behind files.rows earlier e ≡ None

-- a commit that is not refused leaves no text above the limit of a file, and no more files than may be there
abbrev pub CommitKeepsLimits : Type 0
CommitKeepsLimits =
    (r : ℕ) (files : FilesValue) (edits : List Edit) → refusal_of files edits ≡ None →
    (RowsFit files.rows → RowsFit (files_after r files edits).rows)
    × (IsInOrder files.rows → count files.rows ≤ MAX_FILES → count (files_after r files edits).rows ≤ MAX_FILES)
