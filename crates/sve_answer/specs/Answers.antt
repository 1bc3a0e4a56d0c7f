-- What is answered of texts and of the tops, over a table of the values of all keys (own).
use Rattle.std.specs.Prelude.{ℕ, ◌&&◌, is_some, List, Option, Some, None, if◌then◌else◌}
use Rattle.sve_bytes.specs.FileName.{is_file_name_of}
use Rattle.sve_origin.specs.Origins.{values as bytes_of}
use Rattle.sve_prep.specs.Told.{Told}
use Rattle.sve_prep.specs.State.{State}
use Rattle.sve_prep.specs.Expansion.{expand, fresh}
use Rattle.sve_front.specs.Expansions.{state_in}
use Rattle.sve_listing.specs.Files.{none, text_lines, expanded_lines}
use Rattle.sve_listing.specs.Lists.{tops_lines}
use Rattle.sve_key.specs.declared.key.Key.{Key}
use Rattle.sve_key.specs.declared.key.Key.TheVariants as keys
use Rattle.sve_key.specs.declared.value.Value.{Value}
use Rattle.sve_key.specs.Values.{text_in_value, tops_in_value}
use Rattle.sve_make.specs.Make.{read_text}

module _ (table : Key → ℕ → Value) where
  -- the text of the file of this name, if it is there
  abbrev pub text_by : List ℕ → Option (List ℕ)
  text_by name = read_text name (table (keys.Text name) 0)

  -- what is told of texts, and with what the expansion of a file over it ends (IEEE 1800-2017, clause 22)
  abbrev pub texts_by : Told
  texts_by name = Some (text_by name)

  abbrev pub state_by : List ℕ → State
  state_by name = state_in (expand texts_by fresh None name)

  -- the text of a file; a name that no file may have is not there
  abbrev pub file_lines : List ℕ → List (List ℕ)
  file_lines name = if is_file_name_of name then text_lines (text_in_value (table (keys.Text name) 0)).stamp (text_by name) else none

  -- the expanded text, where the file is there
  abbrev pub expanded_by : List ℕ → List (List ℕ)
  expanded_by name = expanded_lines (bytes_of (state_by name).out)

  abbrev pub expand_lines : List ℕ → List (List ℕ)
  expand_lines name = if is_file_name_of name && is_some (text_by name) then expanded_by name else none

  -- the tops of the design (23.3.1)
  abbrev pub top_lines : List (List ℕ)
  top_lines = tops_lines (tops_in_value (table keys.Index 0))
