-- The pieces of a text are its first piece and those of the rest.
use Rattle.std.proofs.Common.{◌≡◌, ℕ, zero, suc, ◌<◌, ◌≤◌, List, [], ◌∷◌, length, drop, refl, ap, arith, length-drop}
use Rattle.sve_lex.specs.Classes.{piece_of}
use Rattle.sve_lex.specs.Pieces.{front_piece, first_pieces, pieces}
use Rattle.sve_lex.proofs.Pieces.{piece_filled}

-- any number from the length on is enough
enough : (n m : ℕ) (text : List ℕ) → length text ≤ n → length text ≤ m → first_pieces n text ≡ first_pieces m text
enough zero zero text l k = refl
enough zero (suc m) [] l k = refl
enough zero (suc m) (b ∷ bs) l k = absurd (omega arith)
enough (suc n) zero [] l k = refl
enough (suc n) zero (b ∷ bs) l k = absurd (omega arith)
enough (suc n) (suc m) [] l k = refl
enough (suc n) (suc m) (b ∷ bs) l k =
    let f : 0 < (piece_of (b ∷ bs)).1 = piece_filled (b ∷ bs) (omega arith) in
    ap (λ ps. front_piece (b ∷ bs) (piece_of (b ∷ bs)) ∷ ps)
    (enough n m (drop (piece_of (b ∷ bs)).1 (b ∷ bs))
    (omega (arith, length-drop (piece_of (b ∷ bs)).1 (b ∷ bs))) (omega (arith, length-drop (piece_of (b ∷ bs)).1 (b ∷ bs))))

pub pieces_end : pieces [] ≡ []
unfolding pieces
pieces_end = refl

pub pieces_next : (text : List ℕ) → 0 < length text → pieces text ≡ front_piece text (piece_of text) ∷ pieces (drop (piece_of text).1 text)
unfolding pieces
pieces_next [] l = absurd (omega arith)
pieces_next (b ∷ bs) l =
    let f : 0 < (piece_of (b ∷ bs)).1 = piece_filled (b ∷ bs) l in
    ap (λ ps. front_piece (b ∷ bs) (piece_of (b ∷ bs)) ∷ ps)
    (enough (length bs) (length (drop (piece_of (b ∷ bs)).1 (b ∷ bs))) (drop (piece_of (b ∷ bs)).1 (b ∷ bs))
    (omega (arith, length-drop (piece_of (b ∷ bs)).1 (b ∷ bs))) (omega arith))
