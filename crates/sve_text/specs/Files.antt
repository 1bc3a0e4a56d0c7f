-- The files of a revision, the edits of a commit, and the files that they leave.
use Rattle.std.specs.Prelude.{ℕ, ◌≢◌, Bool, List, [], ◌∷◌, Option, Some, None, option_map, if◌then◌else◌, All, AllPairs}
use Rattle.std.specs.Bool.{beq}
use Rattle.std.specs.List.{list_all}
use Rattle.sve_rope.specs.Splice.{spliced}
use Rattle.sve_text.specs.declared.edit.Edit.{Edit}
use Rattle.sve_text.specs.declared.edit.Edit.TheVariants.{Put, Drop, Splice}
use Rattle.sve_text.specs.Rows.{Row, text_of, is_there, put_row, IsInLimit}

-- The files: a row for each name that was touched, in byte order of the names, and the stamp of the set of the names that are there.
-- Every other name is absent, with stamp 0.
pub record FilesValue : Type 0 where
  pub rows : List Row
  pub names_stamp : ℕ

-- the name that an edit touches
abbrev pub name_of : Edit → List ℕ
name_of (Put name text) = name
name_of (Drop name) = name
name_of (Splice name base offset cut text) = name

-- what an edit leaves of its file, of which this was there before
abbrev pub text_after : Option (List ℕ) → Edit → Option (List ℕ)
text_after before (Put name text) = Some text
text_after before (Drop name) = None
text_after before (Splice name base offset cut text) = option_map (spliced offset cut text) before

-- the rows after one edit of the commit that makes revision r
abbrev pub edited : ℕ → List Row → Edit → List Row
edited r rows e = put_row (record { name = name_of e; text = text_after (text_of rows (name_of e)) e; stamp = r }) rows

-- the rows after all edits of the commit, taken in order
abbrev pub rows_after : ℕ → List Row → List Edit → List Row
rows_after r rows [] = rows
rows_after r rows (e ∷ es) = rows_after r (edited r rows e) es

-- the edits leave the set of names that they find: each touched name is there after them exactly where it was there before
abbrev pub keep_names : List Row → List Row → List Edit → Bool
keep_names before after edits = list_all (λ e. beq (is_there before (name_of e)) (is_there after (name_of e))) edits

-- the files after the commit that makes revision r
abbrev pub files_after : ℕ → FilesValue → List Edit → FilesValue
files_after r files edits =
    let rows = rows_after r files.rows edits in
    record {
      rows = rows;
      names_stamp = if keep_names files.rows rows edits then files.names_stamp else r;
    }

-- the rows of opening files, each with stamp 0
abbrev pub opening_rows : List Row → List (List ℕ × List ℕ) → List Row
opening_rows rows [] = rows
opening_rows rows (file ∷ files) = opening_rows (put_row (record { name = file.0; text = Some file.1; stamp = 0 }) rows) files

abbrev pub opening_files : List (List ℕ × List ℕ) → FilesValue
opening_files files = record { rows = opening_rows [] files; names_stamp = 0 }

-- no two files have one name
abbrev pub HaveDistinctNames : List (List ℕ × List ℕ) → Type 0
HaveDistinctNames files = AllPairs (λ a b. a.0 ≢ b.0) files

-- no file has a text above the limit
abbrev pub TextsFit : List (List ℕ × List ℕ) → Type 0
TextsFit files = All (λ file. IsInLimit file.1) files
