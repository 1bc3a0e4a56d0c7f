-- What holds of the pieces of a text, and of the lines of a definition (own).
use Rattle.std.specs.Prelude.{◌≡◌, ℕ, ◌+◌, ◌==◌, nat_lt, List, [], ◌∷◌, length, if◌then◌else◌, IsTrue}
use Rattle.std.specs.List.{list_all, flat_map}
use Rattle.sve_directive.specs.Pieces.{pieces}
use Rattle.sve_directive.specs.Define.{joined}

-- the pieces, one after the other, are the text
abbrev pub PiecesSpellTheText : Type 0
PiecesSpellTheText = (text : List ℕ) → flat_map (λ piece. piece) (pieces text) ≡ text

-- a text is not cut forever
abbrev pub EachPieceHasAByte : Type 0
EachPieceHasAByte = (text : List ℕ) → IsTrue (list_all (λ piece. nat_lt 0 (length piece)) (pieces text))

-- how many line feeds a text has
abbrev pub line_feeds : List ℕ → ℕ
line_feeds [] = 0
line_feeds (b ∷ bs) = (if b == 10 then 1 else 0) + line_feeds bs

-- lines that are joined stay lines, so that what follows keeps its line numbers
abbrev pub JoiningKeepsLineFeeds : Type 0
JoiningKeepsLineFeeds = (text : List ℕ) → line_feeds (joined text) ≡ line_feeds text
