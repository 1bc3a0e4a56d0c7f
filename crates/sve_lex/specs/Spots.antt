-- Where a cursor stands in an expanded text.
use Rattle.std.specs.Prelude.{ℕ, zero, suc, ◌+◌, ◌<◌, Bool, true, ◌&&◌, List, [], ◌∷◌, drop}
use Rattle.sve_origin.specs.Origins.{Origin, Spot, next}
use Rattle.sve_origin.specs.declared.segment.Segment.{Segment}
use Rattle.sve_lex.specs.declared.cursor.Cursor.{Cursor}
use Rattle.sve_lex.specs.Tokens.{follows}

-- the file of the segment with this number, from 0
abbrev pub file_at : ℕ → List Segment → List ℕ
file_at n [] = []
file_at zero (s ∷ ss) = s.place.file
file_at (suc n) (s ∷ ss) = file_at n ss

abbrev pub origin_at : Cursor → List Segment → Origin
origin_at c ss = record { file = file_at c.segment ss; offset = c.offset; copied = c.copied }

abbrev pub spot_of : Cursor → List Segment → Spot
spot_of c ss = record { at = c.at; origin = origin_at c ss; later = drop (c.segment + 1) ss }

-- n bytes further on
abbrev pub steps : ℕ → Spot → Spot
steps zero p = p
steps (suc n) p = steps n (next p)

-- the next n bytes each follow the one before
abbrev pub goes_on_for : ℕ → Spot → Bool
goes_on_for zero p = true
goes_on_for (suc n) p = follows p.origin (next p).origin && goes_on_for n (next p)

-- no later segment begins at this byte or before it
abbrev pub IsBefore : ℕ → List Segment → Type 0
IsBefore n [] = Unit {0}
IsBefore n (s ∷ ss) = n < s.from
