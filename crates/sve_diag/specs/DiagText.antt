-- The line of a diagnostic in a report (own).
use Rattle.std.specs.Prelude.{ℕ, Option, Some, None, List, [], ◌∷◌, ◌++◌}
use Rattle.std.specs.Fmt.{decimal}
use Rattle.sve_bytes.specs.LineColumn.{line_at, column_at}
use Rattle.sve_diag.specs.declared.diag.Diag.{Diag}
use Rattle.sve_diag.specs.declared.diag.Place.{Place}
use Rattle.sve_diag.specs.CodeText.{code_text}

-- the file, the line and the column, a colon between each and the next
abbrev pub place_text : Place → List ℕ → List ℕ
place_text p text = p.file ++ 58 ∷ decimal (line_at text p.offset) ++ 58 ∷ decimal (column_at text p.offset)

-- a space and the argument, where there is one
abbrev pub argument_text : Option (List ℕ) → List ℕ
argument_text None = []
argument_text (Some name) = 32 ∷ name

abbrev pub diag_text : Diag → List ℕ → List ℕ
diag_text d text = place_text d.place text ++ 58 ∷ 32 ∷ code_text d.code ++ argument_text d.arg
