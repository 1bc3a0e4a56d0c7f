-- What the next byte says (own).
use Rattle.std.specs.Prelude.{ℕ, ◌<◌, List, [], ◌∷◌, false}
use Rattle.sve_origin.specs.Origins.{Origin}
use Rattle.sve_unread.specs.Bytes.{Byte, depth}

abbrev pub head_origin : List Byte → Origin
head_origin [] = record { file = []; offset = 0; copied = false }
head_origin (b ∷ bs) = b.origin

abbrev pub head_line : List Byte → ℕ
head_line [] = 0
head_line (b ∷ bs) = b.line

abbrev pub head_macros : List Byte → List (List ℕ)
head_macros [] = []
head_macros (b ∷ bs) = b.macros

abbrev pub head_level : List Byte → ℕ
head_level [] = 0
head_level (b ∷ bs) = b.level

-- how many texts are open around the one that is being read
abbrev pub height : List Byte → ℕ
height [] = 0
height (b ∷ bs) = depth b

-- a text of this depth may be opened before these bytes
abbrev pub IsDeeper : ℕ → List Byte → Type 0
IsDeeper d [] = Unit {0}
IsDeeper d (b ∷ bs) = depth b < d
