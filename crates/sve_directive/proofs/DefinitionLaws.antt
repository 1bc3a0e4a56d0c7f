-- Laws of the definitions.
use Rattle.std.proofs.Common.{◌≡◌, ℕ, zero, suc, ◌+◌, ◌<◌, ◌≤◌, ◌==◌, nat_lt, Bool, true, false, ◌&&◌, cond, List, [], ◌∷◌, ◌++◌, length, take, drop, refl, ap, sym, ◌∙◌, arith, length-drop}
use Rattle.std.specs.List.{list_all, flat_map}
use Rattle.std.proofs.lemmas.Bool.{and_parts}
use Rattle.std.proofs.lemmas.List.{take-append-drop}
use Rattle.sve_directive.specs.Bytes.{begins_with}
use Rattle.sve_directive.specs.Pieces.{piece_length, pieces_in, pieces}
use Rattle.sve_directive.specs.Define.{continues, joined}
use Rattle.sve_directive.specs.Laws.{PiecesSpellTheText, EachPieceHasAByte, line_feeds, JoiningKeepsLineFeeds}
use Rattle.sve_directive.proofs.PieceLemmas.{some_piece}

spelled : (n : ℕ) (text : List ℕ) → length text ≤ n → flat_map (λ (piece : List ℕ). piece) (pieces_in n text) ≡ text
unfolding pieces_in
spelled zero [] h = refl
spelled zero (b ∷ bs) h = absurd (omega arith)
spelled (suc n) [] h = refl
spelled (suc n) (b ∷ bs) h =
    let p : 0 < piece_length (b ∷ bs) = some_piece b bs in
    ap (λ rest. take (piece_length (b ∷ bs)) (b ∷ bs) ++ rest) (spelled n (drop (piece_length (b ∷ bs)) (b ∷ bs)) (omega (arith, length-drop (piece_length (b ∷ bs)) (b ∷ bs))))
    ∙ take-append-drop (piece_length (b ∷ bs)) (b ∷ bs)

pub pieces_spell_the_text : PiecesSpellTheText
unfolding pieces
pieces_spell_the_text text = spelled (length text) text (omega arith)

some_front : (k b : ℕ) (bs : List ℕ) → 0 < k → nat_lt 0 (length (take k (b ∷ bs))) ≡ true
some_front zero b bs h = absurd (omega arith)
some_front (suc k) b bs h = grind arith

filled : (n : ℕ) (text : List ℕ) → list_all (λ (piece : List ℕ). nat_lt 0 (length piece)) (pieces_in n text) ≡ true
unfolding pieces_in
filled zero text = refl
filled (suc n) [] = refl
filled (suc n) (b ∷ bs) =
    ap (λ (v : Bool). v && list_all (λ (piece : List ℕ). nat_lt 0 (length piece)) (pieces_in n (drop (piece_length (b ∷ bs)) (b ∷ bs)))) (some_front (piece_length (b ∷ bs)) b bs (some_piece b bs))
    ∙ filled n (drop (piece_length (b ∷ bs)) (b ∷ bs))

pub each_piece_has_a_byte : EachPieceHasAByte
unfolding pieces
each_piece_has_a_byte text = filled (length text) text

slash_no_feed : (b : ℕ) → (b == 92) ≡ true → (b == 10) ≡ false
slash_no_feed b h = grind arith

kept : (b : ℕ) (bs : List ℕ) (v : Bool) → continues (b ∷ bs) ≡ v → line_feeds (joined bs) ≡ line_feeds bs → line_feeds (cond v (joined bs) (b ∷ joined bs)) ≡ line_feeds (b ∷ bs)
kept b bs false h e = ap (λ n. cond (b == 10) 1 0 + n) e
kept b bs true h e =
    let none : (b == 10) ≡ false = slash_no_feed b ((and_parts (b == 92) (begins_with 10 bs) h).0) in
    e ∙ (let z : line_feeds bs ≡ 0 + line_feeds bs = omega arith in z) ∙ ap (λ v. cond v 1 0 + line_feeds bs) (sym none)

pub joining_keeps_line_feeds : JoiningKeepsLineFeeds
joining_keeps_line_feeds [] = refl
joining_keeps_line_feeds (b ∷ bs) = kept b bs (continues (b ∷ bs)) refl (joining_keeps_line_feeds bs)
