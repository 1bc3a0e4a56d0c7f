-- A text has no more tokens than bytes.
use Rattle.std.proofs.Common.{ℕ, zero, suc, ◌≤◌, List, [], ◌∷◌, length, take, drop, arith, length-append}
use Rattle.sve_origin.specs.Origins.{Cell, values}
use Rattle.sve_lex.specs.declared.class.Class.{Class}
use Rattle.sve_lex.specs.declared.class.Class.TheVariants.{Separator, Lexeme}
use Rattle.sve_lex.specs.Classes.{piece_of}
use Rattle.sve_lex.specs.Pieces.{Piece, first_pieces, pieces}
use Rattle.sve_lex.specs.Tokens.{token_of, cut, tokens}

pieces_few : (n : ℕ) (text : List ℕ) → length (first_pieces n text) ≤ n
pieces_few zero text = omega arith
pieces_few (suc n) [] = omega arith
pieces_few (suc n) (b ∷ bs) = omega (arith, pieces_few n (drop (piece_of (b ∷ bs)).1 (b ∷ bs)))

at_most_one : (w : Class) (cs : List Cell) → length (token_of w cs) ≤ 1
at_most_one Separator cs = omega arith
at_most_one (Lexeme kind) [] = omega arith
at_most_one (Lexeme kind) (c ∷ cs) = omega arith

cut_few : (ps : List Piece) (cs : List Cell) → length (cut ps cs) ≤ length ps
cut_few [] cs = omega arith
cut_few (p ∷ ps) cs =
    let here = take (length p.1) cs in
    let rest = drop (length p.1) cs in
    omega (arith, length-append (token_of p.0 here) (cut ps rest), at_most_one p.0 here, cut_few ps rest)

pub few_tokens : (cs : List Cell) → length (tokens cs) ≤ length (values cs)
unfolding tokens pieces
few_tokens cs = omega (arith, cut_few (first_pieces (length (values cs)) (values cs)) cs, pieces_few (length (values cs)) (values cs))
