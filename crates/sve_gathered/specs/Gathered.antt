-- The files that a table of the values of all keys tells (own).
use Rattle.std.specs.Prelude.{ℕ, ◌≡◌, true, List, [], ◌∷◌, Option, Some, None}
use Rattle.std.specs.List.{flat_map}
use Rattle.sve_text.specs.Rows.{Row, name_cmp}
use Rattle.sve_text.specs.Files.{opening_rows}
use Rattle.sve_ordered.specs.Ordered.{ordered}
use Rattle.sve_key.specs.declared.key.Key.{Key}
use Rattle.sve_key.specs.declared.key.Key.TheVariants as keys
use Rattle.sve_key.specs.declared.value.Value.{Value}
use Rattle.sve_key.specs.Values.{text_in_value, names_in_value}
use Rattle.sve_make.specs.Make.{input_of}

-- a key whose value is read off the files: that of the names, or that of a text
abbrev pub IsInput : Key → Type 0
IsInput k = input_of k ≡ true

-- the file of a name, where it has a text
abbrev pub file_of : List ℕ → Option (List ℕ) → List (List ℕ × List ℕ)
file_of name None = []
file_of name (Some text) = (name, text) ∷ []

module _ (table : Key → ℕ → Value) where
  -- the names that are told, in byte order, each once
  abbrev pub names_by : List (List ℕ)
  names_by = ordered name_cmp (names_in_value (table keys.Names 0))

  -- the file of a name, where its text is told
  abbrev pub file_by : List ℕ → List (List ℕ × List ℕ)
  file_by name = file_of name (text_in_value (table (keys.Text name) 0)).text

  -- the rows of all these files, each with stamp 0
  abbrev pub rows_by : List Row
  rows_by = opening_rows [] (flat_map file_by names_by)
