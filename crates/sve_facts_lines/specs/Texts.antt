-- Parts of lines (own).
use Rattle.std.specs.Prelude.{ℕ, List, ◌++◌, codes, length, min}
use Rattle.sve_bytes.specs.declared.direction.Dir.{Dir}
use Rattle.sve_bytes.specs.declared.direction.Dir.TheVariants.{Input, Output, Inout}
use Rattle.sve_diag.specs.declared.diag.Place.{Place}
use Rattle.sve_diag.specs.DiagText.{place_text}

-- `at <file>:<line>:<column>`, over the text of the file, and no further than at its end
abbrev pub at_text : Place → List ℕ → List ℕ
at_text place text = codes "at " ++ place_text (record { file = place.file; offset = min place.offset (length text) }) text

-- the word of a direction (IEEE 1800-2017, 23.2.2)
abbrev pub direction_word : Dir → List ℕ
direction_word Input = codes "input"
direction_word Output = codes "output"
direction_word Inout = codes "inout"
