-- The pieces of a text, one at a time.
use Rattle.std.proofs.Common.{◌≡◌, ℕ, zero, suc, ◌+◌, ◌<◌, ◌≤◌, ◌==◌, Bool, true, false, not, cond, List, [], ◌∷◌, ◌++◌, length, take, drop, refl, ap, sym, subst, ◌∙◌, arith, length-drop, append_assoc}
use Rattle.std.proofs.lemmas.Bool.{true≢false, false≢true}
use Rattle.std.proofs.lemmas.List.{append-nil, drop-drop, length-take-le, length-take, drop_all}
use Rattle.std.proofs.lemmas.List.Concat.{flat_map-cons}
use Rattle.std.proofs.lemmas.List.Sums.{take_while-cons, sum_by-cons}
use Rattle.std.specs.List.{take_while, sum_by, flat_map}
use Rattle.sve_directive.specs.Bytes.{begins_with, line_length}
use Rattle.sve_directive.specs.Pieces.{piece_length, pieces_in, pieces, front_length, is_plain, plain_length, is_gap, gap_length, is_at_backtick, ends_line, before_line_end, rest_of_line, unless_one_line_comment, uncommented}

pub some_piece : (b : ℕ) (bs : List ℕ) → 0 < piece_length (b ∷ bs)
some_piece b bs = grind arith

pieces-enough : (n m : ℕ) (text : List ℕ) → length text ≤ n → length text ≤ m → pieces_in n text ≡ pieces_in m text
unfolding pieces_in
pieces-enough zero zero text h k = refl
pieces-enough zero (suc m) [] h k = refl
pieces-enough zero (suc m) (b ∷ bs) h k = absurd (omega arith)
pieces-enough (suc n) zero [] h k = refl
pieces-enough (suc n) zero (b ∷ bs) h k = absurd (omega arith)
pieces-enough (suc n) (suc m) [] h k = refl
pieces-enough (suc n) (suc m) (b ∷ bs) h k =
    let p : 0 < piece_length (b ∷ bs) = some_piece b bs in
    let shorter : length (drop (piece_length (b ∷ bs)) (b ∷ bs)) < length (b ∷ bs) = omega (arith, length-drop (piece_length (b ∷ bs)) (b ∷ bs)) in
    ap (λ ps. take (piece_length (b ∷ bs)) (b ∷ bs) ∷ ps) (pieces-enough n m (drop (piece_length (b ∷ bs)) (b ∷ bs)) (omega arith) (omega arith))

pub pieces-next : (text : List ℕ) → 0 < length text → pieces text ≡ take (piece_length text) text ∷ pieces (drop (piece_length text) text)
unfolding pieces_in pieces
pieces-next [] h = absurd (omega arith)
pieces-next (b ∷ bs) h =
    let p : 0 < piece_length (b ∷ bs) = some_piece b bs in
    let shorter : length (drop (piece_length (b ∷ bs)) (b ∷ bs)) < length (b ∷ bs) = omega (arith, length-drop (piece_length (b ∷ bs)) (b ∷ bs)) in
    ap (λ ps. take (piece_length (b ∷ bs)) (b ∷ bs) ∷ ps) (pieces-enough (length bs) (length (drop (piece_length (b ∷ bs)) (b ∷ bs))) (drop (piece_length (b ∷ bs)) (b ∷ bs)) (omega arith) (omega arith))

pub pieces-none : pieces [] ≡ []
unfolding pieces_in pieces
pieces-none = refl

cond-cons : (passes : List ℕ → Bool) (p : List ℕ) (ps : List (List ℕ)) → passes p ≡ true → sum_by length (take_while passes (p ∷ ps)) ≡ length p + sum_by length (take_while passes ps)
cond-cons passes p ps h = ap (λ (xs : List (List ℕ)). sum_by length xs) (take_while-cons passes p ps ∙ ap (λ v. cond v (p ∷ take_while passes ps) []) h) ∙ sum_by-cons length p (take_while passes ps)

counted : (passes : List ℕ → Bool) (p : List ℕ) (n : ℕ) (ps all : List (List ℕ)) → all ≡ p ∷ ps → length p ≡ n → passes p ≡ true → sum_by length (take_while passes all) ≡ n + sum_by length (take_while passes ps)
counted passes p n ps all e l h = ap (λ xs. sum_by length (take_while passes xs)) e ∙ cond-cons passes p ps h ∙ ap (λ k. k + sum_by length (take_while passes ps)) l

not_counted : (passes : List ℕ → Bool) (p : List ℕ) (ps all : List (List ℕ)) → all ≡ p ∷ ps → passes p ≡ false → sum_by length (take_while passes all) ≡ 0
not_counted passes p ps all e h = ap (λ xs. sum_by length (take_while passes xs)) e ∙ ap (λ (xs : List (List ℕ)). sum_by length xs) (take_while-cons passes p ps ∙ ap (λ v. cond v (p ∷ take_while passes ps) []) h)

-- a first piece that passes is counted
pub front-next : (passes : List ℕ → Bool) (text : List ℕ) → 0 < length text → piece_length text ≤ length text → passes (take (piece_length text) text) ≡ true → front_length passes text ≡ piece_length text + front_length passes (drop (piece_length text) text)
unfolding front_length
front-next passes text h k p = counted passes (take (piece_length text) text) (piece_length text) (pieces (drop (piece_length text) text)) (pieces text) (pieces-next text h) (length-take-le (piece_length text) text k) p

-- a first piece that does not pass ends it
pub front-stop : (passes : List ℕ → Bool) (text : List ℕ) → 0 < length text → passes (take (piece_length text) text) ≡ false → front_length passes text ≡ 0
unfolding front_length
front-stop passes text h p = not_counted passes (take (piece_length text) text) (pieces (drop (piece_length text) text)) (pieces text) (pieces-next text h) p

pub front-none : (passes : List ℕ → Bool) → front_length passes [] ≡ 0
unfolding front_length
front-none passes = ap (λ ps. sum_by length (take_while passes ps)) pieces-none

-- the first byte of some front
begins_front : (v k b : ℕ) (bs : List ℕ) → 0 < k → begins_with v (take k (b ∷ bs)) ≡ (b == v)
begins_front v zero b bs h = absurd (omega arith)
begins_front v (suc k) b bs h = refl

-- where no backtick stands, the first piece is passed
pub plain-next : (text : List ℕ) → is_at_backtick text ≡ false → piece_length text ≤ length text → plain_length text ≡ piece_length text + plain_length (drop (piece_length text) text)
unfolding plain_length
plain-next [] h k = absurd (true≢false h)
plain-next (b ∷ bs) h k = front-next is_plain (b ∷ bs) (omega arith) k (ap not (begins_front 96 (piece_length (b ∷ bs)) b bs (some_piece b bs) ∙ h))

pub plain-stop : (text : List ℕ) → is_at_backtick text ≡ true → plain_length text ≡ 0
unfolding plain_length
plain-stop [] h = front-none is_plain
plain-stop (b ∷ bs) h = front-stop is_plain (b ∷ bs) (omega arith) (ap not (begins_front 96 (piece_length (b ∷ bs)) b bs (some_piece b bs) ∙ h))

-- one step of a loop over pieces
pub plain_step : (text : List ℕ) (n k whole : ℕ) → is_at_backtick (drop n text) ≡ false → k ≡ piece_length (drop n text) → k ≤ length (drop n text) → n + plain_length (drop n text) ≡ whole → n + k + plain_length (drop (n + k) text) ≡ whole
plain_step text n k whole h e w s =
    let next : plain_length (drop n text) ≡ k + plain_length (drop k (drop n text)) = plain-next (drop n text) h (subst (λ x. x ≤ length (drop n text)) e w) ∙ ap (λ x. x + plain_length (drop x (drop n text))) (sym e) in
    let same : plain_length (drop k (drop n text)) ≡ plain_length (drop (n + k) text) = ap plain_length (drop-drop k n text) in
    omega arith

pub plain_end : (text : List ℕ) (n whole : ℕ) → is_at_backtick (drop n text) ≡ true → n + plain_length (drop n text) ≡ whole → n ≡ whole
plain_end text n whole h s = let e : plain_length (drop n text) ≡ 0 = plain-stop (drop n text) h in omega arith

abbrev no_byte : List ℕ
no_byte = []

gap_some : (next text : List ℕ) (k : ℕ) → next ≡ take k text → is_gap next ≡ true → 0 < length text
gap_some [] text k e h = absurd (false≢true h)
gap_some (b ∷ bs) [] k e h = let l : length (b ∷ bs) ≡ length (take k no_byte) = ap length e in absurd (omega (arith, length-take k no_byte))
gap_some (b ∷ bs) (c ∷ cs) k e h = omega arith

gap_stop : (text : List ℕ) → is_gap (take (piece_length text) text) ≡ false → front_length is_gap text ≡ 0
gap_stop [] h = front-none is_gap
gap_stop (b ∷ bs) h = front-stop is_gap (b ∷ bs) (omega arith) h

-- white space and comments; `next` is the piece at a place
pub gap_step : (text next : List ℕ) (n whole : ℕ) → next ≡ take (piece_length (drop n text)) (drop n text) → piece_length (drop n text) ≤ length (drop n text) → is_gap next ≡ true → n + gap_length (drop n text) ≡ whole → n + length next + gap_length (drop (n + length next) text) ≡ whole
unfolding gap_length
gap_step text next n whole e w h s =
    let some : 0 < length (drop n text) = gap_some next (drop n text) (piece_length (drop n text)) e h in
    let size : length next ≡ piece_length (drop n text) = ap length e ∙ length-take-le (piece_length (drop n text)) (drop n text) w in
    let step : front_length is_gap (drop n text) ≡ piece_length (drop n text) + front_length is_gap (drop (piece_length (drop n text)) (drop n text)) = front-next is_gap (drop n text) some w (ap is_gap (sym e) ∙ h) in
    let same : front_length is_gap (drop (piece_length (drop n text)) (drop n text)) ≡ front_length is_gap (drop (n + length next) text) = ap (λ k. front_length is_gap (drop k (drop n text))) (sym size) ∙ ap (front_length is_gap) (drop-drop (length next) n text) in
    omega arith

pub gap_end : (text next : List ℕ) (n whole : ℕ) → next ≡ take (piece_length (drop n text)) (drop n text) → is_gap next ≡ false → n + gap_length (drop n text) ≡ whole → n ≡ whole
unfolding gap_length
gap_end text next n whole e h s = let z : front_length is_gap (drop n text) ≡ 0 = gap_stop (drop n text) (ap is_gap (sym e) ∙ h) in omega arith

-- the text without one-line comments, one piece on
pub uncommented-next : (text : List ℕ) → 0 < length text → uncommented text ≡ unless_one_line_comment (take (piece_length text) text) ++ uncommented (drop (piece_length text) text)
unfolding uncommented
uncommented-next text h = ap (flat_map unless_one_line_comment) (pieces-next text h) ∙ flat_map-cons unless_one_line_comment (take (piece_length text) text) (pieces (drop (piece_length text) text))

pub uncommented-none : uncommented [] ≡ []
unfolding uncommented
uncommented-none = ap (flat_map unless_one_line_comment) pieces-none

-- `next` is the piece at a place, and `more` what is kept of it
pub comment_step : (text next out more : List ℕ) (n : ℕ) (whole : List ℕ) → next ≡ take (piece_length (drop n text)) (drop n text) → piece_length (drop n text) ≤ length (drop n text) → 0 < length (drop n text) → more ≡ out ++ unless_one_line_comment next → out ++ uncommented (drop n text) ≡ whole → more ++ uncommented (drop (n + length next) text) ≡ whole
comment_step text next out more n whole e w p m s =
    let size : length next ≡ piece_length (drop n text) = ap length e ∙ length-take-le (piece_length (drop n text)) (drop n text) w in
    let rest : drop (n + length next) text ≡ drop (piece_length (drop n text)) (drop n text) = sym (drop-drop (length next) n text) ∙ ap (λ k. drop k (drop n text)) size in
    ap (λ x. x ++ uncommented (drop (n + length next) text)) m
    ∙ append_assoc out (unless_one_line_comment next) (uncommented (drop (n + length next) text))
    ∙ ap (λ x. out ++ (unless_one_line_comment next ++ uncommented x)) rest
    ∙ ap (λ x. out ++ (unless_one_line_comment x ++ uncommented (drop (piece_length (drop n text)) (drop n text)))) e
    ∙ ap (λ x. out ++ x) (sym (uncommented-next (drop n text) p)) ∙ s

pub comment_end : (text out : List ℕ) (n : ℕ) (whole : List ℕ) → length text ≤ n → out ++ uncommented (drop n text) ≡ whole → out ≡ whole
comment_end text out n whole h s = sym (append-nil out) ∙ ap (λ x. out ++ x) (sym uncommented-none) ∙ ap (λ x. out ++ uncommented x) (sym (drop_all n text h)) ∙ s

-- the rest of a line, one piece on
line-next : (text : List ℕ) → 0 < length text →
    rest_of_line text ≡ cond (ends_line (take (piece_length text) text)) (line_length (take (piece_length text) text)) (length (take (piece_length text) text) + rest_of_line (drop (piece_length text) text))
unfolding rest_of_line
line-next text h = ap before_line_end (pieces-next text h)

line-none : rest_of_line [] ≡ 0
unfolding rest_of_line
line-none = ap before_line_end pieces-none

-- `next` is the piece at a place, in which the line ends or not
line-piece : (text next : List ℕ) (n : ℕ) (b : Bool) → next ≡ take (piece_length (drop n text)) (drop n text) → piece_length (drop n text) ≤ length (drop n text) → 0 < length (drop n text) → ends_line next ≡ b →
    rest_of_line (drop n text) ≡ cond b (line_length next) (length next + rest_of_line (drop (n + length next) text))
line-piece text next n b e w p h =
    let k = piece_length (drop n text) in
    let size : length next ≡ k = ap length e ∙ length-take-le k (drop n text) w in
    line-next (drop n text) p
    ∙ ap (λ x. cond (ends_line x) (line_length x) (length x + rest_of_line (drop k (drop n text)))) (sym e)
    ∙ ap (λ c. cond c (line_length next) (length next + rest_of_line (drop k (drop n text)))) h
    ∙ ap (λ t. cond b (line_length next) (length next + rest_of_line t)) (ap (λ m. drop m (drop n text)) (sym size) ∙ drop-drop (length next) n text)

pub line_step : (text next : List ℕ) (n whole : ℕ) → next ≡ take (piece_length (drop n text)) (drop n text) → piece_length (drop n text) ≤ length (drop n text) → 0 < length (drop n text) → ends_line next ≡ false →
    n + rest_of_line (drop n text) ≡ whole → n + length next + rest_of_line (drop (n + length next) text) ≡ whole
line_step text next n whole e w p h s =
    let step : rest_of_line (drop n text) ≡ length next + rest_of_line (drop (n + length next) text) = line-piece text next n false e w p h in
    omega arith

pub line_end : (text next : List ℕ) (n whole : ℕ) → next ≡ take (piece_length (drop n text)) (drop n text) → piece_length (drop n text) ≤ length (drop n text) → 0 < length (drop n text) → ends_line next ≡ true →
    n + rest_of_line (drop n text) ≡ whole → n + line_length next ≡ whole
line_end text next n whole e w p h s =
    let step : rest_of_line (drop n text) ≡ line_length next = line-piece text next n true e w p h in
    omega arith

pub line_done : (text : List ℕ) (n whole : ℕ) → length text ≤ n → n + rest_of_line (drop n text) ≡ whole → n ≡ whole
line_done text n whole h s =
    let none : rest_of_line (drop n text) ≡ 0 = ap rest_of_line (drop_all n text h) ∙ line-none in
    omega arith
