-- Places in the text of a file, gone through from one to the next (own).
use Rattle.std.specs.Prelude.{ℕ, ◌≡◌, ◌≤◌, ◌<◌, ◌+◌, ◌^◌, List, [], length, Option, option_map, unwrap_or}
use Rattle.std.specs.Arc.{arc_value}
use Rattle.std.specs.declared.sync.Arc.{Arc}
use Rattle.std.specs.declared.alloc.Global.{Global}
use Rattle.sve_bytes.specs.LineColumn.{line_at, column_at}
use Rattle.sve_listing.specs.declared.spot.Spot.{Spot}

-- the line and the column are those of the byte at this offset
pub record IsSpotIn (text : List ℕ) (s : Spot) : Type 0 where
  pub within : s.at ≤ length text
  pub line : s.line ≡ line_at text s.at
  pub column : s.column ≡ column_at text s.at

-- the bytes of a text; one that is not there has none
abbrev pub bytes_in : Option (Arc (List ℕ) Global) → List ℕ
bytes_in text = unwrap_or (option_map arc_value text) []

-- a file that was opened, its text, and how far that was gone through
pub record OpenedValue : Type 0 where
  pub file : List ℕ
  pub text : List ℕ
  pub at : ℕ

-- the text was gone through up to this spot, and the numbers of its lines and columns fit
pub record IsGoneThrough (text : List ℕ) (s : Spot) : Type 0 where
  pub small : length text + 1 < 2 ^ 32
  pub spot : IsSpotIn text s
