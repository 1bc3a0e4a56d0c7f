-- Texts as lines.
use Rattle.std.specs.Prelude.{ℕ, ◌≡◌, ◌==◌, List, [], ◌∷◌, ◌++◌, map, if◌then◌else◌}
use Rattle.std.specs.List.{flat_map, join_with_byte}

-- the same pieces, with this byte before the first
abbrev pub before_first_piece : ℕ → List (List ℕ) → List (List ℕ)
before_first_piece b [] = (b ∷ []) ∷ []
before_first_piece b (piece ∷ pieces) = (b ∷ piece) ∷ pieces

-- the pieces of a text between its line feeds: one more than there are line feeds
abbrev pub cut_at_line_feeds : List ℕ → List (List ℕ)
cut_at_line_feeds [] = [] ∷ []
cut_at_line_feeds (b ∷ bs) = if b == 10 then [] ∷ cut_at_line_feeds bs else before_first_piece b (cut_at_line_feeds bs)

-- the lines of a text, each of which a line feed ends
abbrev pub lines_in : List ℕ → List (List ℕ)
lines_in [] = []
lines_in (b ∷ bs) = if b == 10 then [] ∷ lines_in bs else before_first_piece b (lines_in bs)

-- a line of the output, which ends with a line feed
abbrev pub ended : List ℕ → List ℕ
ended line = line ++ 10 ∷ []

abbrev pub text_of_lines : List (List ℕ) → List ℕ
text_of_lines = flat_map ended

-- each piece of a text between its line feeds, after a bar
abbrev pub barred : List ℕ → List (List ℕ)
barred text = map (λ piece. 124 ∷ piece) (cut_at_line_feeds text)

-- the byte does not occur
abbrev pub Lacks : ℕ → List ℕ → Type 0
Lacks b [] = Unit {0}
Lacks b (c ∷ cs) = (c ≡ b → ⊥) × Lacks b cs

-- no line holds a line feed
abbrev pub AreLines : List (List ℕ) → Type 0
AreLines [] = Unit {0}
AreLines (line ∷ lines) = Lacks 10 line × AreLines lines

-- the pieces of a text joined by line feeds are the text, and no piece holds one
abbrev pub PiecesMakeTheText : Type 0
PiecesMakeTheText = (text : List ℕ) → (join_with_byte 10 (cut_at_line_feeds text) ≡ text) × AreLines (cut_at_line_feeds text)
