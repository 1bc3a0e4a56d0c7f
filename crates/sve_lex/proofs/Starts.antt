-- Where the tokens of the front of a text begin, and those of what comes after it.
use Rattle.std.proofs.Common.{◌≡◌, ℕ, zero, suc, ◌+◌, ◌<◌, ◌≤◌, List, [], ◌∷◌, ◌++◌, length, take, drop, refl, sym, ap, ◌∙◌, arith, append_assoc, subst, length-append, Result, Ok, Err, IfOk}
use Rattle.std.proofs.lemmas.List.{length-take-le, drop_all, append-nil}
use Rattle.sve_origin.specs.Origins.{Spot, Cell, cells_from, values}
use Rattle.sve_token.specs.declared.kind.Kind.{Kind}
use Rattle.sve_lex.specs.declared.class.Class.{Class}
use Rattle.sve_lex.specs.declared.lexing.Lexed.{Lexed}
use Rattle.sve_lex.specs.declared.class.Class.TheVariants.{Separator, Lexeme}
use Rattle.sve_lex.specs.Classes.{piece_of}
use Rattle.sve_lex.specs.Pieces.{Piece, front_piece, first_pieces, pieces}
use Rattle.sve_lex.specs.Tokens.{token_of, cut, tokens, start_of, starts_from, starts, Rise}
use Rattle.sve_lex.proofs.Pieces.{piece_within, piece_filled}
use Rattle.sve_lex.proofs.Cutting.{pieces_end, pieces_next}
use Rattle.sve_lex.proofs.TokenSteps.{values_cells, is_separator}

starts_next : (at : ℕ) (text : List ℕ) (w : Class) (n : ℕ) → 0 < length text → (w, n) ≡ piece_of text → starts_from at (pieces text) ≡ start_of at w ++ starts_from (at + n) (pieces (drop n text))
starts_next at text w n l e =
    let k : n ≤ length text = subst (λ (q : Class × ℕ). q.1 ≤ length text) (sym e) (piece_within text l) in
    let m : length (take n text) ≡ n = length-take-le n text k in
    ap (starts_from at) (pieces_next text l)
    ∙ ap (λ (q : Class × ℕ). starts_from at (front_piece text q ∷ pieces (drop q.1 text))) (sym e)
    ∙ ap (λ (i : ℕ). start_of at w ++ starts_from (at + i) (pieces (drop n text))) m

-- a piece that is a token
pub start_pushed : (out new total : List ℕ) (at next n : ℕ) (text more : List ℕ) (w : Class) (kind : Kind) → new ≡ out ++ at ∷ [] → next ≡ at + n → more ≡ drop n text → 0 < length text → w ≡ Lexeme kind → (w, n) ≡ piece_of text
    → out ++ starts_from at (pieces text) ≡ total → new ++ starts_from next (pieces more) ≡ total
start_pushed out new total at next n text more w kind i a r l g e same =
    ap (λ (k : ℕ). new ++ starts_from k (pieces more)) a
    ∙ ap (λ (t : List ℕ). new ++ starts_from (at + n) (pieces t)) r
    ∙ ap (λ (x : List ℕ). x ++ starts_from (at + n) (pieces (drop n text))) i
    ∙ append_assoc out (at ∷ []) (starts_from (at + n) (pieces (drop n text)))
    ∙ ap (λ (x : List ℕ). out ++ x) (sym (starts_next at text w n l e ∙ ap (λ (c : Class). start_of at c ++ starts_from (at + n) (pieces (drop n text))) g))
    ∙ same

-- a piece that is none
pub start_passed : (out total : List ℕ) (at next n : ℕ) (text more : List ℕ) (w : Class) → next ≡ at + n → more ≡ drop n text → 0 < length text → ((kind : Kind) → w ≡ Lexeme kind → ⊥) → (w, n) ≡ piece_of text
    → out ++ starts_from at (pieces text) ≡ total → out ++ starts_from next (pieces more) ≡ total
start_passed out total at next n text more w a r l g e same =
    ap (λ (k : ℕ). out ++ starts_from k (pieces more)) a
    ∙ ap (λ (t : List ℕ). out ++ starts_from (at + n) (pieces t)) r
    ∙ ap (λ (x : List ℕ). out ++ x) (sym (starts_next at text w n l e ∙ ap (λ (c : Class). start_of at c ++ starts_from (at + n) (pieces (drop n text))) (is_separator w g)))
    ∙ same

pub starts_end : (xs : List ℕ) (p : Spot) (text : List ℕ) (at n : ℕ) → length text ≤ n → xs ++ starts_from at (pieces (drop n text)) ≡ starts_from 0 (pieces text) → xs ≡ starts (cells_from p text)
unfolding starts
starts_end xs p text at n l same =
    sym (append-nil xs) ∙ sym (ap (λ (t : List ℕ). xs ++ starts_from at (pieces t)) (drop_all n text l) ∙ ap (λ (ps : List Piece). xs ++ starts_from at ps) pieces_end)
    ∙ same ∙ sym (ap (λ (t : List ℕ). starts_from 0 (pieces t)) (values_cells p text))

-- each later piece begins behind the earlier ones
rise_on : (least at : ℕ) (ps : List Piece) → least ≤ at → Rise least (starts_from at ps)
rise_on least at [] h = tt
rise_on least at ((Separator, s) ∷ ps) h = rise_on least (at + length s) ps (omega arith)
rise_on least at ((Lexeme kind, s) ∷ ps) h = (h, rise_on at (at + length s) ps (omega arith))

pub starts_rise : (cs : List Cell) → Rise 0 (starts cs)
unfolding starts
starts_rise cs = rise_on 0 0 (pieces (values cs)) (omega arith)

values_drop : (n : ℕ) (cs : List Cell) → values (drop n cs) ≡ drop n (values cs)
values_drop zero cs = refl
values_drop (suc n) [] = refl
values_drop (suc n) (c ∷ cs) = values_drop n cs

one_start : (at : ℕ) (w : Class) (c : Cell) (cs : List Cell) → length (start_of at w) ≡ length (token_of w (c ∷ cs))
one_start at Separator c cs = refl
one_start at (Lexeme kind) c cs = refl

piece_start : (at : ℕ) (w : Class) (n : ℕ) (c : Cell) (cs : List Cell) → 0 < n → length (start_of at w) ≡ length (token_of w (take n (c ∷ cs)))
piece_start at w zero c cs l = absurd (omega arith)
piece_start at w (suc n) c cs l = one_start at w c (take n cs)

as_many : (n at : ℕ) (cs : List Cell) → length (starts_from at (first_pieces n (values cs))) ≡ length (cut (first_pieces n (values cs)) cs)
as_many zero at cs = refl
as_many (suc n) at [] = refl
as_many (suc n) at (c ∷ cs) =
    let text = values (c ∷ cs) in
    let p : Class × ℕ = piece_of text in
    let filled : 0 < p.1 = piece_filled text (omega arith) in
    let size : length (take p.1 text) ≡ p.1 = length-take-le p.1 text (piece_within text (omega arith)) in
    let further = at + length (take p.1 text) in
    let later : length (starts_from further (first_pieces n (drop p.1 text))) ≡ length (cut (first_pieces n (drop p.1 text)) (drop p.1 (c ∷ cs))) =
    ap (λ (t : List ℕ). length (starts_from further (first_pieces n t))) (sym (values_drop p.1 (c ∷ cs)))
    ∙ as_many n further (drop p.1 (c ∷ cs))
    ∙ ap (λ (t : List ℕ). length (cut (first_pieces n t) (drop p.1 (c ∷ cs)))) (values_drop p.1 (c ∷ cs)) in
    let here : length (start_of at p.0) ≡ length (token_of p.0 (take p.1 (c ∷ cs))) = piece_start at p.0 p.1 c cs filled in
    length-append (start_of at p.0) (starts_from further (first_pieces n (drop p.1 text)))
    ∙ ap (λ (k : ℕ). k + length (starts_from further (first_pieces n (drop p.1 text)))) here
    ∙ ap (λ (k : ℕ). length (token_of p.0 (take p.1 (c ∷ cs))) + k) later
    ∙ sym (length-append (token_of p.0 (take p.1 (c ∷ cs))) (cut (first_pieces n (drop p.1 text)) (drop p.1 (c ∷ cs))))
    ∙ ap (λ (k : ℕ). length (token_of p.0 (take k (c ∷ cs)) ++ cut (first_pieces n (drop p.1 text)) (drop k (c ∷ cs)))) (sym size)

-- each token begins somewhere
pub one_each : (cs : List Cell) → length (starts cs) ≡ length (tokens cs)
unfolding starts tokens pieces
one_each cs = as_many (length (values cs)) 0 cs

pub begun_each : {E : Type 0} (cs : List Cell) (r : Result Lexed E) → IfOk r (λ l. l.tokens ≡ tokens cs) → IfOk r (λ l. l.starts ≡ starts cs) → IfOk r (λ l. length l.starts ≡ length l.tokens)
begun_each cs (Err e) h k = tt
begun_each cs (Ok l) h k = ap length k ∙ one_each cs ∙ sym (ap length h)

pub begun_rise : {E : Type 0} (cs : List Cell) (r : Result Lexed E) → IfOk r (λ l. l.starts ≡ starts cs) → IfOk r (λ l. Rise 0 l.starts)
begun_rise cs (Err e) k = tt
begun_rise cs (Ok l) k = subst (Rise 0) (sym k) (starts_rise cs)
