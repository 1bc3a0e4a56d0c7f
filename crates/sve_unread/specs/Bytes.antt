-- The bytes that are still to be read (own).
use Rattle.std.specs.Prelude.{ℕ, ◌+◌, ◌&&◌, Bool, cond, List, [], ◌∷◌, length, map, nat_eq, if◌then◌else◌}
use Rattle.sve_bytes.specs.LineColumn.{is_line_feed}
use Rattle.sve_origin.specs.Origins.{Origin, Cell, moved}

-- a byte that is still to be read
pub record Byte : Type 0 where
  pub value : ℕ
  pub origin : Origin
  -- the line of its origin, from 1
  pub line : ℕ
  -- the macros from whose results it comes, the innermost first
  pub macros : List (List ℕ)
  -- how many includes lead to it
  pub level : ℕ

-- the line behind a byte: a line feed ends a line of a file, but not one of a macro's result, which has the line of its use
abbrev pub line_behind : Bool → ℕ → ℕ → ℕ
line_behind copied v line = line + cond (copied && is_line_feed v) 1 0

-- a text that comes from one place on, to be read
abbrev pub laid : List ℕ → Origin → ℕ → List (List ℕ) → ℕ → List Byte
laid [] o line macros level = []
laid (v ∷ vs) o line macros level =
    record { value = v; origin = o; line = line; macros = macros; level = level } ∷ laid vs (moved 1 o) (line_behind o.copied v line) macros level

-- the line behind these bytes
abbrev pub line_past : Bool → List ℕ → ℕ → ℕ
line_past copied [] line = line
line_past copied (v ∷ vs) line = line_past copied vs (line_behind copied v line)

-- a byte as it is written
abbrev pub cell : Byte → Cell
cell b = (b.value, b.origin)

-- how many texts are open around it: each text has one macro more, or one include more, than the text around it
abbrev pub depth : Byte → ℕ
depth b = length b.macros + b.level

abbrev pub while_depth : ℕ → List Byte → List Byte
while_depth d [] = []
while_depth d (b ∷ bs) = if nat_eq (depth b) d then b ∷ while_depth d bs else []

-- what is left of the text that is being read: the longest front of one depth
abbrev pub front : List Byte → List Byte
front [] = []
front (b ∷ bs) = b ∷ while_depth (depth b) bs

abbrev pub value_of : Byte → ℕ
value_of b = b.value

-- its bytes
abbrev pub ahead : List Byte → List ℕ
ahead bs = map value_of (front bs)
