-- Answers that give the text of a file (own).
use Rattle.std.specs.Prelude.{ℕ, List, [], ◌∷◌, ◌++◌, Option, Some, None, length, codes, decimal}
use Rattle.sve_report.specs.Lines.{barred}

-- the line for a thing that is not there
abbrev pub none : List (List ℕ)
none = codes "none" ∷ []

-- `stamp <s> bytes <n>`
abbrev pub text_head : ℕ → ℕ → List ℕ
text_head stamp size = codes "stamp " ++ decimal stamp ++ codes " bytes " ++ decimal size

-- the head, and each line of the text after a bar
abbrev pub text_lines : ℕ → Option (List ℕ) → List (List ℕ)
text_lines stamp None = none
text_lines stamp (Some text) = text_head stamp (length text) ∷ barred text

-- `bytes <n>`
abbrev pub expanded_head : ℕ → List ℕ
expanded_head size = codes "bytes " ++ decimal size

abbrev pub expanded_lines : List ℕ → List (List ℕ)
expanded_lines text = expanded_head (length text) ∷ barred text
