-- The pieces of a text: tokens and separators, one after another.
use Rattle.std.specs.Prelude.{ℕ, zero, suc, List, [], ◌∷◌, length, take, drop}
use Rattle.sve_lex.specs.declared.class.Class.{Class}
use Rattle.sve_lex.specs.Classes.{piece_of}

-- what a piece is, and its bytes
abbrev pub Piece : Type 0
Piece = Class × List ℕ

abbrev pub front_piece : List ℕ → Class × ℕ → Piece
front_piece text p = (p.0, take p.1 text)

-- the first pieces of a text, at most n of them
abbrev pub first_pieces : ℕ → List ℕ → List Piece
first_pieces zero text = []
first_pieces (suc n) [] = []
first_pieces (suc n) (b ∷ bs) =
    front_piece (b ∷ bs) (piece_of (b ∷ bs)) ∷ first_pieces n (drop (piece_of (b ∷ bs)).1 (b ∷ bs))

-- all of them: a text has no more pieces than bytes
unfoldable pub pieces : List ℕ → List Piece
pieces text = first_pieces (length text) text
