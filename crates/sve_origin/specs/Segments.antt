-- Which segments a text may have, and what they say of it (own).
use Rattle.std.specs.Prelude.{ℕ, ◌-◌, ◌<◌, ◌^◌, ◌≡◌, List, [], ◌∷◌, ◌++◌, length, take, drop}
use Rattle.std.specs.List.{All}
use Rattle.sve_origin.specs.Origins.{Origin, Cell, marked, moved, origin_of, cells, HasOffset}
use Rattle.sve_origin.specs.declared.segment.Segment.{Segment}

-- they rise from s on, and begin below n
abbrev pub RiseBelow : ℕ → Segment → List Segment → Type 0
RiseBelow n s [] = s.from < n
RiseBelow n s (t ∷ ts) = (s.from < t.from) × RiseBelow n t ts

-- the segments of n bytes: the first begins at 0, they rise, and each begins within the bytes
abbrev pub Cover : List Segment → ℕ → Type 0
Cover [] n = n ≡ 0
Cover (s ∷ ss) n = (s.from ≡ 0) × RiseBelow n s ss

-- what a text keeps: it has fewer than 2^32 bytes, its segments cover them, and all offsets have 32 bits
pub record IsCovered (segments : List Segment) (bytes : List ℕ) : Type 0 where
  pub small : length bytes < 2 ^ 32
  pub cover : Cover segments (length bytes)
  pub offsets : All HasOffset (cells segments bytes)

-- the origin of a byte at n that goes on from the segment
abbrev pub next_of : Segment → ℕ → Origin
next_of s n = moved (n - s.from) (origin_of s)

-- it is that of a byte that goes on from the last segment
abbrev pub IsNextOfLast : List Segment → ℕ → Origin → Type 0
IsNextOfLast [] n o = ⊥
IsNextOfLast (s ∷ []) n o = o ≡ next_of s n
IsNextOfLast (s ∷ t ∷ ts) n o = IsNextOfLast (t ∷ ts) n o

-- bytes that begin with the segment s, up to the next one, and so on
abbrev pub runs_from : Segment → List Segment → List ℕ → List Cell
runs_from s [] bytes = marked bytes (origin_of s)
runs_from s (t ∷ ts) bytes =
    marked (take (t.from - s.from) bytes) (origin_of s) ++ runs_from t ts (drop (t.from - s.from) bytes)

-- a text, run by run
abbrev pub runs : List Segment → List ℕ → List Cell
runs [] bytes = []
runs (s ∷ ss) bytes = runs_from s ss bytes

abbrev pub SegmentBySegment : Type 0
SegmentBySegment =
    (segments : List Segment) (bytes : List ℕ) → Cover segments (length bytes) → cells segments bytes ≡ runs segments bytes
