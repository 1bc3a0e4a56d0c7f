-- Where the bytes of an expanded text come from (own).
use Rattle.std.specs.Prelude.{ℕ, ◌+◌, ◌<◌, ◌^◌, ◌==◌, Bool, false, cond, if◌then◌else◌, List, [], ◌∷◌, map}
use Rattle.sve_origin.specs.declared.segment.Segment.{Segment}

-- the file and the offset that a byte comes from, and whether it is copied from there
pub record Origin : Type 0 where
  pub file : List ℕ
  pub offset : ℕ
  pub copied : Bool

-- a byte with its origin
abbrev pub Cell : Type 0
Cell = ℕ × Origin

abbrev pub value_of : Cell → ℕ
value_of c = c.0

abbrev pub origin_in : Cell → Origin
origin_in c = c.1

-- the bytes alone
abbrev pub values : List Cell → List ℕ
values cs = map value_of cs

-- n bytes further on: in a file the next offsets, in the result of a macro the same place
abbrev pub moved : ℕ → Origin → Origin
moved n o = record { file = o.file; offset = o.offset + cond o.copied n 0; copied = o.copied }

-- bytes that come from one place on
abbrev pub marked : List ℕ → Origin → List Cell
marked [] o = []
marked (v ∷ vs) o = (v, o) ∷ marked vs (moved 1 o)

-- where the first byte of a segment comes from
abbrev pub origin_of : Segment → Origin
origin_of s = record { file = s.place.file; offset = s.place.offset; copied = s.copied }

-- a byte's place in the expanded text: how many bytes stand before it, its origin, and the segments that begin later
pub record Spot : Type 0 where
  pub at : ℕ
  pub origin : Origin
  pub later : List Segment

abbrev pub next_in : ℕ → Origin → List Segment → Spot
next_in at o [] = record { at = at + 1; origin = moved 1 o; later = [] }
next_in at o (s ∷ ss) =
    if s.from == at + 1 then record { at = at + 1; origin = origin_of s; later = ss }
    else record { at = at + 1; origin = moved 1 o; later = s ∷ ss }

-- the spot of the next byte: a segment that begins there says its origin, else it goes on from this one
unfoldable pub next : Spot → Spot
next p = next_in p.at p.origin p.later

-- the spot of the first byte
abbrev pub first : List Segment → Spot
first [] = record { at = 0; origin = record { file = []; offset = 0; copied = false }; later = [] }
first (s ∷ ss) = record { at = 0; origin = origin_of s; later = ss }

-- the bytes from a spot on, each with its origin
abbrev pub cells_from : Spot → List ℕ → List Cell
cells_from p [] = []
cells_from p (b ∷ bs) = (b, p.origin) ∷ cells_from (next p) bs

-- an expanded text: its bytes, each with the origin that the segments give it
abbrev pub cells : List Segment → List ℕ → List Cell
cells segments bytes = cells_from (first segments) bytes

-- the offset has 32 bits
abbrev pub HasOffset : Cell → Type 0
HasOffset c = c.1.offset < 2 ^ 32
