-- Answers that list one thing a line (own).
use Rattle.std.specs.Prelude.{ℕ, ◌-◌, ◌==◌, not, nat_le, List, [], ◌∷◌, ◌++◌, None, length, map, take, min, unwrap_or, if◌then◌else◌, codes, decimal}
use Rattle.std.specs.List.{filter}
use Rattle.sve_bytes.specs.PathText.{path_text}
use Rattle.sve_diag.specs.declared.diag.Diag.{Diag}
use Rattle.sve_diag.specs.DiagText.{diag_text}
use Rattle.sve_text.specs.Rows.{Row, text_of}

-- the most lines of a list
abbrev pub max_listed : ℕ
max_listed = 1000

-- `more <n>`
abbrev pub more_line : ℕ → List ℕ
more_line n = codes "more " ++ decimal n

-- the lines of those that are shown of so many things; where some are left out, one line more says how many
abbrev pub with_more : ℕ → List (List ℕ) → List (List ℕ)
with_more count lines = if nat_le count max_listed then lines else lines ++ more_line (count - max_listed) ∷ []

-- a line for each thing, as far as there may be lines
abbrev pub listed : {X : Type 0} → (X → List ℕ) → List X → List (List ℕ)
listed line things = with_more (length things) (map line (take max_listed things))

-- The bytes on one line: line feeds are left out. No name and no argument holds one.
abbrev pub on_one_line : List ℕ → List ℕ
on_one_line bytes = filter (λ b. not (b == 10)) bytes

-- a name as the one step of a path (IEEE 1800-2017, 23.6)
abbrev pub top_line : List ℕ → List ℕ
top_line name = on_one_line (path_text (record { name = name; index = None } ∷ []))

abbrev pub tops_lines : List (List ℕ) → List (List ℕ)
tops_lines tops = listed top_line tops

-- the text of the file of this name; that of a file that is not there has no bytes
abbrev pub file_text : List Row → List ℕ → List ℕ
file_text rows name = unwrap_or (text_of rows name) []

-- the same diagnostic, no further than at the end of the text
abbrev pub within_text : List ℕ → Diag → Diag
within_text text d = record { place = record { file = d.place.file; offset = min d.place.offset (length text) }; code = d.code; arg = d.arg }

-- the line of a diagnostic, over the text of its file
abbrev pub line_in : List ℕ → Diag → List ℕ
line_in text d = on_one_line (diag_text (within_text text d) text)

-- the lines of diagnostics, over the texts of files by their names
abbrev pub diags_lines_of : (List ℕ → List ℕ) → List Diag → List (List ℕ)
diags_lines_of texts diags = listed (λ d. line_in (texts d.place.file) d) diags

abbrev pub diags_lines : List Row → List Diag → List (List ℕ)
diags_lines rows diags = diags_lines_of (file_text rows) diags
