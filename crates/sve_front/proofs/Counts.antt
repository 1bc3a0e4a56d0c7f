-- A text has no more tokens than bytes.
use Rattle.std.proofs.Common.{ℕ, zero, suc, ◌≤◌, List, [], ◌∷◌, length, take, drop, arith, length-append}
use Rattle.sve_origin.specs.Origins.{Cell, values}
use Rattle.sve_lex.specs.declared.class.Class.{Class}
use Rattle.sve_lex.specs.declared.class.Class.TheVariants.{Separator, Lexeme}
use Rattle.sve_lex.specs.Classes.{piece_of}
use Rattle.sve_lex.specs.Pieces.{Piece, first_pieces, pieces}
use Rattle.sve_lex.specs.Tokens.{token_of, cut, tokens}

few_pieces : (n : ℕ) (text : List ℕ) → length (first_pieces n text) ≤ n
few_pieces zero text = omega arith
few_pieces (suc n) [] = omega arith
few_pieces (suc n) (b ∷ bs) = omega (arith, few_pieces n (drop (piece_of (b ∷ bs)).1 (b ∷ bs)))

one_token : (w : Class) (cs : List Cell) → length (token_of w cs) ≤ 1
one_token Separator cs = omega arith
one_token (Lexeme kind) [] = omega arith
one_token (Lexeme kind) (c ∷ cs) = omega arith

few_cut : (ps : List Piece) (cs : List Cell) → length (cut ps cs) ≤ length ps
few_cut [] cs = omega arith
few_cut (p ∷ ps) cs =
    let here = take (length p.1) cs in
    let rest = drop (length p.1) cs in
    omega (arith, length-append (token_of p.0 here) (cut ps rest), one_token p.0 here, few_cut ps rest)

pub few_tokens : (cs : List Cell) → length (tokens cs) ≤ length (values cs)
unfolding tokens pieces
few_tokens cs = omega (arith, few_cut (first_pieces (length (values cs)) (values cs)) cs, few_pieces (length (values cs)) (values cs))
