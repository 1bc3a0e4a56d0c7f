-- What a query may be answered at some files (own).
use Rattle.std.specs.Prelude.{ℕ, ◌≡◌, Bool, true, false, ◌&&◌, is_some, List, if◌then◌else◌}
use Rattle.sve_bytes.specs.FileName.{is_file_name_of}
use Rattle.sve_origin.specs.Origins.{values as bytes_of}
use Rattle.sve_text.specs.Rows.{Row, IsInOrder, text_of, stamp_of}
use Rattle.sve_index.specs.declared.whole.Index.{Index}
use Rattle.sve_listing.specs.Files.{none, text_lines, expanded_lines}
use Rattle.sve_listing.specs.Lists.{tops_lines}
use Rattle.sve_command.specs.declared.commands.Query.{Query}
use Rattle.sve_command.specs.declared.commands.Query.TheVariants.{File, Expand, Tops}
use Rattle.sve_store.specs.declared.answer.Answer.{Answer}
use Rattle.sve_store.specs.declared.answer.Answer.TheVariants.{Done}
use Rattle.sve_gist.specs.Index.{index_of_gists}
use Rattle.sve_key.specs.Parts.{names_there}
use Rattle.sve_make.specs.AtFiles.{state_at}
use Rattle.sve_make.specs.IndexAt.{gists_at}
use Rattle.sve_design_answers.specs.Queries.{IsDesignAnswer}

-- the index of the design that the files are: over what it takes from the words of all chunks that the grammar accepts, unit by unit (IEEE
-- 1800-2017, 3.13 and 23.3.1)
abbrev pub index_at : List Row → Index
index_at rows = index_of_gists (gists_at rows)

-- the text of the file of this name; a name that no file may have is not there
abbrev pub file_lines : List Row → List ℕ → List (List ℕ)
file_lines rows name = if is_file_name_of name then text_lines (stamp_of rows name) (text_of rows name) else none

-- its expanded text, where the file is there (clause 22)
abbrev pub expand_lines : List Row → List ℕ → List (List ℕ)
expand_lines rows name = if is_file_name_of name && is_some (text_of rows name) then expanded_lines (bytes_of (state_at rows name).out) else none

-- files in the order of their names that have these names and texts, whenever they were touched
pub record AreTheFiles (rows files : List Row) : Type 0 where
  pub order : IsInOrder files
  pub texts : (name : List ℕ) → text_of files name ≡ text_of rows name
  pub names : names_there files ≡ names_there rows

-- the design that these files are is read and elaborated from nothing
pub record IsElaborated (rows : List Row) (query : Query) (budget : ℕ) (answer : Answer) : Type 0 where
  pub files : List Row
  pub same : AreTheFiles rows files
  pub answered : IsDesignAnswer files query budget answer

-- What a query may be answered at these files within a budget. What is answered from their texts alone costs nothing.
abbrev pub Answers : List Row → Query → ℕ → Answer → Type 0
Answers rows (File name) budget answer = answer ≡ Done (file_lines rows name)
Answers rows (Expand name) budget answer = answer ≡ Done (expand_lines rows name)
Answers rows Tops budget answer = answer ≡ Done (tops_lines (index_at rows).tops)
Answers rows query budget answer = IsElaborated rows query budget answer

-- whether the query is answered from the texts of the files alone; then it has one answer at any files
abbrev pub has_one_answer : Query → Bool
has_one_answer (File name) = true
has_one_answer (Expand name) = true
has_one_answer Tops = true
has_one_answer query = false
