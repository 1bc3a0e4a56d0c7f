-- Bytes that do not occur in a text, and the lines of one.
use Rattle.std.proofs.Common.{◌≡◌, ℕ, ◌+◌, ◌<◌, ◌≤◌, ◌%◌, Bool, List, [], ◌∷◌, ◌++◌, length, decimal, not, true, false, ◌==◌, refl, sym, ◌∙◌, ap, arith, append_assoc, length-append, true≢false}
use Rattle.std.specs.List.{list_all}
use Rattle.std.proofs.lemmas.List.{append-nil}
use Rattle.std.proofs.lemmas.Bool.{and_parts, eqb-true, eq-eqb}
use Rattle.std.proofs.lemmas.Fmt.{decimal_by_steps}
use Rattle.sve_report.specs.Lines.{before_first_piece, lines_in, ended, text_of_lines, Lacks, AreLines}
use Rattle.sve_report.specs.ReadBack.{Fits64}

-- the bytes are decimal digits
abbrev pub AreDigits : List ℕ → Type 0
AreDigits [] = Unit {0}
AreDigits (d ∷ ds) = (47 < d) × (d < 58) × AreDigits ds

digits-push : (ds : List ℕ) (d : ℕ) → AreDigits ds → 47 < d → d < 58 → AreDigits (ds ++ d ∷ [])
digits-push [] d h low high = (low, high, tt)
digits-push (x ∷ ds) d h low high = (h.0, h.1, digits-push ds d h.2 low high)

pub digits-decimal : (n : ℕ) → Fits64 n → AreDigits (decimal n)
digits-decimal n fits =
    decimal_by_steps (λ (m : ℕ) (ds : List ℕ). AreDigits ds) (λ m small. (omega arith, omega (arith, small), tt))
    (λ m ds large h. digits-push ds (48 + m % 10) h (omega arith) (omega arith)) n fits

digits-lack : (b : ℕ) (ds : List ℕ) → b < 48 → AreDigits ds → Lacks b ds
digits-lack b [] low h = tt
digits-lack b (d ∷ ds) low h = ((λ same. absurd (omega (arith, same, h.0, low))), digits-lack b ds low h.2)

pub decimal-lacks : (b n : ℕ) → b < 48 → Fits64 n → Lacks b (decimal n)
decimal-lacks b n low fits = digits-lack b (decimal n) low (digits-decimal n fits)

pub lacks-append : (b : ℕ) (xs ys : List ℕ) → Lacks b xs → Lacks b ys → Lacks b (xs ++ ys)
lacks-append b [] ys lx ly = ly
lacks-append b (x ∷ xs) ys lx ly = (lx.0, lacks-append b xs ys lx.1 ly)

pub text-append : (ls ms : List (List ℕ)) → text_of_lines (ls ++ ms) ≡ text_of_lines ls ++ text_of_lines ms
text-append [] ms = refl
text-append (l ∷ ls) ms = ap (λ (t : List ℕ). ended l ++ t) (text-append ls ms) ∙ sym (append_assoc (ended l) (text_of_lines ls) (text_of_lines ms))

-- a literal text that lacks a byte
pub lacks_by : (b : ℕ) (xs : List ℕ) → list_all (λ c. not (c == b)) xs ≡ true → Lacks b xs
lacks_by b [] e = tt
lacks_by b (x ∷ xs) e =
    let p = and_parts (not (x == b)) (list_all (λ c. not (c == b)) xs) e in
    ((λ same. absurd (true≢false (sym p.0 ∙ ap not (eq-eqb x b same)))), lacks_by b xs p.1)

pub are_lines-append : (ls ms : List (List ℕ)) → AreLines ls → AreLines ms → AreLines (ls ++ ms)
are_lines-append [] ms hl hm = hm
are_lines-append (l ∷ ls) ms hl hm = (hl.0, are_lines-append ls ms hl.1 hm)

-- ---- the lines of a text

pub lines-before : (b : ℕ) (pieces : List (List ℕ)) → (b ≡ 10 → ⊥) → AreLines pieces → AreLines (before_first_piece b pieces)
lines-before b [] other h = ((other, tt), tt)
lines-before b (p ∷ ps) other h = ((other, h.0), h.1)

pub is_other : (b : ℕ) → (b == 10) ≡ false → b ≡ 10 → ⊥
is_other b differs same = true≢false (sym (eq-eqb b 10 same) ∙ differs)

lines_in-are_lines : (text : List ℕ) → AreLines (lines_in text)
lines_in-are_lines [] = tt
lines_in-are_lines (b ∷ bs) = by_test (b == 10) refl (lines_in-are_lines bs)
  where
    by_test : (t : Bool) → (b == 10) ≡ t → AreLines (lines_in bs) → AreLines (lines_in (b ∷ bs))
    by_test true is rest = rw is (tt, rest)
    by_test false is rest = rw is (lines-before b (lines_in bs) (is_other b is) rest)

-- a line, and the lines of what follows its end
pub lines_in-line : (line rest : List ℕ) → Lacks 10 line → lines_in (line ++ 10 ∷ rest) ≡ line ∷ lines_in rest
lines_in-line [] rest h = refl
lines_in-line (b ∷ bs) rest h = by_test (b == 10) refl (lines_in-line bs rest h.1)
  where
    by_test : (t : Bool) → (b == 10) ≡ t → lines_in (bs ++ 10 ∷ rest) ≡ bs ∷ lines_in rest → lines_in ((b ∷ bs) ++ 10 ∷ rest) ≡ (b ∷ bs) ∷ lines_in rest
    by_test true is more = absurd (h.0 (eqb-true b 10 is))
    by_test false is more = rw is (ap (before_first_piece b) more)

lines_in-text : (lines : List (List ℕ)) → AreLines lines → lines_in (text_of_lines lines) ≡ lines
lines_in-text [] h = refl
lines_in-text (l ∷ ls) h =
    ap lines_in (append_assoc l (10 ∷ []) (text_of_lines ls))
    ∙ lines_in-line l (text_of_lines ls) h.0
    ∙ ap (λ (more : List (List ℕ)). l ∷ more) (lines_in-text ls h.1)

-- a text whose last line is ended grows by lines
text-grows : (text : List ℕ) (more : List (List ℕ)) → text_of_lines (lines_in text) ≡ text → text ++ text_of_lines more ≡ text_of_lines (lines_in text ++ more)
text-grows text more whole = ap (λ (t : List ℕ). t ++ text_of_lines more) (sym whole) ∙ sym (text-append (lines_in text) more)

-- the text has these lines, and nothing behind them
pub record IsTextOf (all : List (List ℕ)) (text : List ℕ) : Type 0 where
  pub lines : lines_in text ≡ all
  pub whole : text_of_lines (lines_in text) ≡ text

pub lines-added : (old new : List ℕ) (more : List (List ℕ)) → text_of_lines (lines_in old) ≡ old → AreLines more → new ≡ old ++ text_of_lines more → IsTextOf (lines_in old ++ more) new
lines-added old new more whole h is =
    let grown : new ≡ text_of_lines (lines_in old ++ more) = is ∙ text-grows old more whole in
    let all : lines_in new ≡ lines_in old ++ more = ap lines_in grown ∙ lines_in-text (lines_in old ++ more) (are_lines-append (lines_in old) more (lines_in-are_lines old) h) in
    record { lines = all; whole = ap text_of_lines all ∙ sym grown }

pub line-added : (old mid new line : List ℕ) → text_of_lines (lines_in old) ≡ old → Lacks 10 line → mid ≡ old ++ line → new ≡ mid ++ 10 ∷ [] → IsTextOf (lines_in old ++ line ∷ []) new
line-added old mid new line whole h first last =
    lines-added old new (line ∷ []) whole (h, tt) (last ∙ ap (λ (t : List ℕ). t ++ 10 ∷ []) first ∙ append_assoc old line (10 ∷ []) ∙ ap (λ (t : List ℕ). old ++ t) (sym (append-nil (ended line))))

-- a line has a byte at least
lines-few : (lines : List (List ℕ)) → length lines ≤ length (text_of_lines lines)
lines-few [] = omega arith
lines-few (l ∷ ls) = omega (arith, lines-few ls, length-append (ended l) (text_of_lines ls), length-append l (10 ∷ []))

pub lines_in-few : (text : List ℕ) → text_of_lines (lines_in text) ≡ text → length (lines_in text) ≤ length text
lines_in-few text whole = omega (arith, lines-few (lines_in text), ap length whole)
