-- The tokens of the front of a text, and those of what comes after it.
use Rattle.std.proofs.Common.{◌≡◌, ℕ, zero, suc, ◌+◌, ◌-◌, ◌<◌, ◌≤◌, ◌^◌, Bool, ◌&&◌, List, [], ◌∷◌, ◌++◌, length, take, drop, refl, sym, ap, ◌∙◌, arith, append_assoc, subst, sub-one}
use Rattle.std.specs.List.{All}
use Rattle.std.proofs.lemmas.List.{length-take-le, drop_all, take_all}
use Rattle.sve_origin.specs.Origins.{Spot, Cell, next, cells, cells_from, values, HasOffset}
use Rattle.sve_origin.specs.Segments.{Cover}
use Rattle.sve_origin.specs.declared.segment.Segment.{Segment}
use Rattle.sve_token.specs.declared.kind.Kind.{Kind}
use Rattle.sve_token.specs.declared.token.Token.{Token}
use Rattle.sve_lex.specs.declared.class.Class.{Class}
use Rattle.sve_lex.specs.declared.class.Class.TheVariants.{Separator, Lexeme}
use Rattle.sve_lex.specs.Classes.{piece_of}
use Rattle.sve_lex.specs.Pieces.{front_piece, pieces}
use Rattle.sve_lex.specs.Spots.{steps, goes_on_for}
use Rattle.sve_lex.specs.Tokens.{follows, goes_on_from, token_at, place_of, token_of, cut, tokens}
use Rattle.sve_lex.proofs.Pieces.{piece_within}
use Rattle.sve_lex.proofs.Cutting.{pieces_end, pieces_next}

pub values_cells : (p : Spot) (bs : List ℕ) → values (cells_from p bs) ≡ bs
values_cells p [] = refl
values_cells p (b ∷ bs) = ap (λ t. b ∷ t) (values_cells (next p) bs)

drop_cells : (n : ℕ) (p : Spot) (bs : List ℕ) → drop n (cells_from p bs) ≡ cells_from (steps n p) (drop n bs)
drop_cells zero p bs = refl
drop_cells (suc n) p [] = refl
drop_cells (suc n) p (b ∷ bs) = drop_cells n (next p) bs

values_take : (n : ℕ) (p : Spot) (bs : List ℕ) → values (take n (cells_from p bs)) ≡ take n bs
values_take zero p bs = refl
values_take (suc n) p [] = refl
values_take (suc n) p (b ∷ bs) = ap (λ t. b ∷ t) (values_take n (next p) bs)

goes_on_take : (n : ℕ) (p : Spot) (bs : List ℕ) → n ≤ length bs → goes_on_from p.origin (take n (cells_from (next p) bs)) ≡ goes_on_for n p
goes_on_take zero p bs l = refl
goes_on_take (suc n) p [] l = absurd (omega arith)
goes_on_take (suc n) p (b ∷ bs) l = ap (λ x. follows p.origin (next p).origin && x) (goes_on_take n (next p) bs (omega arith))

abbrev pub front_token : Kind → Spot → List ℕ → ℕ → Token
front_token kind p text n = token_at kind (take n text) (place_of p.origin) (p.origin.copied && goes_on_for (n - 1) p)

token_is : (kind : Kind) (p : Spot) (text : List ℕ) (n : ℕ) → 0 < n → n ≤ length text → token_of (Lexeme kind) (take n (cells_from p text)) ≡ (front_token kind p text n ∷ [])
token_is kind p [] n l k = absurd (omega arith)
token_is kind p (b ∷ bs) zero l k = absurd (omega arith)
token_is kind p (b ∷ bs) (suc n) l k =
    rw (values_take n (next p) bs, goes_on_take n p bs (omega arith), sub-one) refl

tokens_next : (p : Spot) (text : List ℕ) (w : Class) (n : ℕ) → 0 < length text → (w, n) ≡ piece_of text → tokens (cells_from p text) ≡ token_of w (take n (cells_from p text)) ++ tokens (cells_from (steps n p) (drop n text))
unfolding tokens
tokens_next p text w n l e =
    let k : n ≤ length text = subst (λ (q : Class × ℕ). q.1 ≤ length text) (sym e) (piece_within text l) in
    let m : length (take n text) ≡ n = length-take-le n text k in
    ap (λ t. cut (pieces t) (cells_from p text)) (values_cells p text)
    ∙ ap (λ ps. cut ps (cells_from p text)) (pieces_next text l)
    ∙ ap (λ (q : Class × ℕ). cut (front_piece text q ∷ pieces (drop q.1 text)) (cells_from p text)) (sym e)
    ∙ (rw (m, drop_cells n p text, values_cells (steps n p) (drop n text)) refl)

tokens_end : (p : Spot) (text : List ℕ) (n : ℕ) → length text ≤ n → tokens (cells_from p (drop n text)) ≡ []
unfolding tokens
tokens_end p text n l = rw (drop_all n text l, pieces_end) refl

pub no_tokens : (p : Spot) (text : List ℕ) → length text ≤ 0 → [] ≡ tokens (cells_from p text)
no_tokens p [] l = sym (tokens_end p [] 0 l)
no_tokens p (b ∷ bs) l = absurd (omega arith)

-- a piece that is a token
pub push_step : (out new : List Token) (t : Token) (total : List Token) (p q : Spot) (text more : List ℕ) (w : Class) (kind : Kind) (n : ℕ) → new ≡ out ++ t ∷ [] → t ≡ front_token kind p text n → more ≡ drop n text → 0 < length text → 0 < n → n ≤ length text → w ≡ Lexeme kind → (w, n) ≡ piece_of text → q ≡ steps n p → out ++ tokens (cells_from p text) ≡ total → new ++ tokens (cells_from q more) ≡ total
push_step out new t total p q text more w kind n i a r l f k g e h same =
    ap (λ m. new ++ tokens (cells_from q m)) r
    ∙ ap (λ m. m ++ tokens (cells_from q (drop n text))) (i ∙ ap (λ x. out ++ x ∷ []) a)
    ∙ append_assoc out (front_token kind p text n ∷ []) (tokens (cells_from q (drop n text)))
    ∙ ap (λ x. out ++ x) (
    ap (λ z. front_token kind p text n ∷ tokens (cells_from z (drop n text))) h
    ∙ sym (tokens_next p text w n l e ∙ ap (λ x. token_of x (take n (cells_from p text)) ++ tokens (cells_from (steps n p) (drop n text))) g ∙ ap (λ x. x ++ tokens (cells_from (steps n p) (drop n text))) (token_is kind p text n f k)))
    ∙ same

pub is_separator : (w : Class) → ((kind : Kind) → w ≡ Lexeme kind → ⊥) → w ≡ Separator
is_separator Separator h = refl
is_separator (Lexeme kind) h = absurd (h kind refl)

-- a piece that is none
pub pass_step : (out : List Token) (total : List Token) (p q : Spot) (text more : List ℕ) (w : Class) (n : ℕ) → more ≡ drop n text → 0 < length text → ((kind : Kind) → w ≡ Lexeme kind → ⊥) → (w, n) ≡ piece_of text → q ≡ steps n p → out ++ tokens (cells_from p text) ≡ total → out ++ tokens (cells_from q more) ≡ total
pass_step out total p q text more w n r l g e h same =
    ap (λ m. out ++ tokens (cells_from q m)) r
    ∙ ap (λ x. out ++ x) (ap (λ z. tokens (cells_from z (drop n text))) h ∙ sym (tokens_next p text w n l e ∙ ap (λ x. token_of x (take n (cells_from p text)) ++ tokens (cells_from (steps n p) (drop n text))) (is_separator w g)))
    ∙ same

pub drop_on : (n m k : ℕ) (xs : List ℕ) → k ≡ n + m → drop k xs ≡ drop m (drop n xs)
drop_on zero m k xs e = let f : k ≡ m = omega arith in ap (λ j. drop j xs) f
drop_on (suc n) m k [] e = drop_all k [] (omega arith) ∙ sym (drop_all m [] (omega arith))
drop_on (suc n) m k (x ∷ xs) e = let f : k ≡ suc (n + m) = omega arith in ap (λ j. drop j (x ∷ xs)) f ∙ drop_on n m (n + m) xs refl

nil_right : (xs : List Token) → xs ++ [] ≡ xs
nil_right [] = refl
nil_right (x ∷ xs) = ap (λ ys. x ∷ ys) (nil_right xs)

pub end_step : (xs total : List Token) (p : Spot) (text : List ℕ) (n : ℕ) → length text ≤ n → xs ++ tokens (cells_from p (drop n text)) ≡ total → xs ≡ total
end_step xs total p text n l same = sym (nil_right xs) ∙ sym (ap (λ ys. xs ++ ys) (tokens_end p text n l)) ∙ same

-- the offsets of what is left have 32 bits
pub offset_here : (p : Spot) (text : List ℕ) → 0 < length text → All HasOffset (cells_from p text) → p.origin.offset < 2 ^ 32
offset_here p [] l h = absurd (omega arith)
offset_here p (b ∷ bs) l h = h 0 (b, p.origin) (omega arith)

past_offsets : (n : ℕ) (p : Spot) (text : List ℕ) → All HasOffset (cells_from p text) → All HasOffset (cells_from (steps n p) (drop n text))
past_offsets zero p text h = h
past_offsets (suc n) p [] h = λ k d l. absurd (omega arith)
past_offsets (suc n) p (b ∷ bs) h = past_offsets n (next p) bs (λ k d l. h (suc k) d (omega arith))

pub offsets_on : (n : ℕ) (p q : Spot) (text more : List ℕ) → more ≡ drop n text → q ≡ steps n p → All HasOffset (cells_from p text) → All HasOffset (cells_from q more)
offsets_on n p q text more r e h =
    let F : List Cell → Type 0 = λ cs. All HasOffset cs in
    subst F (sym (ap (λ t. cells_from q t) r ∙ ap (λ s. cells_from s (drop n text)) e)) (past_offsets n p text h)

-- the token that the loop makes
pub token_front : (t : Token) (kind : Kind) (s text file : List ℕ) (copied : Bool) (p : Spot) (n : ℕ) → t ≡ token_at kind s (record { file = file; offset = p.origin.offset }) copied → s ≡ take n text → file ≡ p.origin.file → copied ≡ (p.origin.copied && goes_on_for (n - 1) p) → t ≡ front_token kind p text n
token_front t kind s text file copied p n a b c d = a ∙ (rw (b, c, d) refl)

-- an expanded text, seen as its cells
pub cells_are : (ss : List Segment) (bytes : List ℕ) (cs : List Cell) → bytes ≡ values cs → cells ss (values cs) ≡ cs → cells ss bytes ≡ cs
cells_are ss bytes cs e same = ap (cells ss) e ∙ same

pub offsets_are : (ss : List Segment) (bytes : List ℕ) (cs : List Cell) → bytes ≡ values cs → cells ss (values cs) ≡ cs → All HasOffset cs → All HasOffset (cells ss bytes)
offsets_are ss bytes cs e same h =
    let F : List Cell → Type 0 = λ xs. All HasOffset xs in
    subst F (sym (cells_are ss bytes cs e same)) h

pub some_segment : (ss : List Segment) (bytes : List ℕ) (cs : List Cell) → bytes ≡ values cs → Cover ss (length cs) → 0 < length bytes → 0 < length ss
some_segment (s ∷ ss) bytes cs e h l = omega arith
some_segment [] bytes [] e h l = absurd (let f : length bytes ≡ 0 = ap length e in omega (arith, f))
some_segment [] bytes (c ∷ cs) e h l = absurd (let f : length (c ∷ cs) ≡ 0 = h in omega (arith, f))

pub take_whole : (bytes : List ℕ) → length bytes ≤ 1024 → bytes ≡ take 1024 bytes
take_whole bytes l = sym (take_all 1024 bytes l)
