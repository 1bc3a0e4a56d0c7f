-- A text that is cut into lines after bars.
use Rattle.std.proofs.Common.{◌≡◌, ℕ, zero, suc, ◌+◌, ◌-◌, ◌==◌, ◌≤◌, Bool, true, false, List, [], ◌∷◌, ◌++◌, Some, None, length, take, drop, map, if◌then◌else◌, refl, ap, sym, ◌∙◌, append_assoc, arith}
use Rattle.std.proofs.lemmas.List.{drop-drop, take-append-drop, length-take, length-drop}
use Rattle.std.proofs.lemmas.Bool.{eqb-true}
use Rattle.std.proofs.Math.Seq.{drop-length, take-length}
use Rattle.std.specs.List.{join_with_byte}
use Rattle.memchr.specs.Find.{IsFirstByte, is_byte}
use Rattle.sve_report.specs.Lines.{cut_at_line_feeds, before_first_piece, barred, text_of_lines, AreLines, PiecesMakeTheText}
use Rattle.sve_report.specs.Cutting.{with_bars, line_feeds}
use Rattle.sve_report.proofs.LineTexts.{lines-before, is_other}

-- ---- a text as one text of lines after bars

bars-before : (b : ℕ) (pieces : List (List ℕ)) (rest : List ℕ) → text_of_lines (map (λ p. 124 ∷ p) pieces) ≡ 124 ∷ rest → text_of_lines (map (λ p. 124 ∷ p) (before_first_piece b pieces)) ≡ 124 ∷ b ∷ rest
bars-before b [] rest e = absurd (cc)
bars-before b (p ∷ ps) rest e = let tail : (p ++ 10 ∷ []) ++ text_of_lines (map (λ q. 124 ∷ q) ps) ≡ rest = cc in ap (λ (t : List ℕ). 124 ∷ b ∷ t) tail

pub barred-text : (text : List ℕ) → text_of_lines (barred text) ≡ 124 ∷ (with_bars text ++ 10 ∷ [])
barred-text [] = refl
barred-text (b ∷ bs) = by_test (b == 10) refl (barred-text bs)
  where
    by_test : (t : Bool) → (b == 10) ≡ t → text_of_lines (barred bs) ≡ 124 ∷ (with_bars bs ++ 10 ∷ []) → text_of_lines (barred (b ∷ bs)) ≡ 124 ∷ (with_bars (b ∷ bs) ++ 10 ∷ [])
    by_test true is rest = rw is (ap (λ (t : List ℕ). 124 ∷ 10 ∷ t) rest)
    by_test false is rest = rw is (bars-before b (cut_at_line_feeds bs) _ rest)

length-before : (b : ℕ) (pieces : List (List ℕ)) (n : ℕ) → length (map (λ p. 124 ∷ p) pieces) ≡ n + 1 → length (map (λ p. 124 ∷ p) (before_first_piece b pieces)) ≡ n + 1
length-before b [] n e = absurd (omega (arith, e))
length-before b (p ∷ ps) n e = e

pub barred-length : (text : List ℕ) → length (barred text) ≡ line_feeds text + 1
barred-length [] = refl
barred-length (b ∷ bs) = by_test (b == 10) refl (barred-length bs)
  where
    by_test : (t : Bool) → (b == 10) ≡ t → length (barred bs) ≡ line_feeds bs + 1 → length (barred (b ∷ bs)) ≡ line_feeds (b ∷ bs) + 1
    by_test true is rest = rw is (omega (arith, rest))
    by_test false is rest = rw is (length-before b (cut_at_line_feeds bs) (line_feeds bs) rest)

-- ---- by runs

pub with_bars-append : (xs ys : List ℕ) → with_bars (xs ++ ys) ≡ with_bars xs ++ with_bars ys
with_bars-append [] ys = refl
with_bars-append (b ∷ bs) ys = by_test (b == 10) refl (with_bars-append bs ys)
  where
    by_test : (t : Bool) → (b == 10) ≡ t → with_bars (bs ++ ys) ≡ with_bars bs ++ with_bars ys → with_bars ((b ∷ bs) ++ ys) ≡ with_bars (b ∷ bs) ++ with_bars ys
    by_test true is rest = rw is (ap (λ (t : List ℕ). 10 ∷ 124 ∷ t) rest)
    by_test false is rest = rw is (ap (λ (t : List ℕ). b ∷ t) rest)

pub line_feeds-append : (xs ys : List ℕ) → line_feeds (xs ++ ys) ≡ line_feeds xs + line_feeds ys
line_feeds-append [] ys = omega arith
line_feeds-append (b ∷ bs) ys = by_test (b == 10) refl (line_feeds-append bs ys)
  where
    by_test : (t : Bool) → (b == 10) ≡ t → line_feeds (bs ++ ys) ≡ line_feeds bs + line_feeds ys → line_feeds ((b ∷ bs) ++ ys) ≡ line_feeds (b ∷ bs) + line_feeds ys
    by_test true is rest = rw is (omega (arith, rest))
    by_test false is rest = rw is rest

pub line_feeds-few : (xs : List ℕ) → line_feeds xs ≤ length xs
line_feeds-few [] = omega arith
line_feeds-few (b ∷ bs) = by_test (b == 10) refl (line_feeds-few bs)
  where
    by_test : (t : Bool) → (b == 10) ≡ t → line_feeds bs ≤ length bs → line_feeds (b ∷ bs) ≤ length (b ∷ bs)
    by_test true is rest = rw is (omega (arith, rest))
    by_test false is rest = rw is (omega (arith, rest))

-- what a text begins with up to its first line feed stays as it is, and a bar follows
pub record IsCutAt (text : List ℕ) (k : ℕ) : Type 0 where
  pub written : with_bars text ≡ take (k + 1) text ++ 124 ∷ with_bars (drop (k + 1) text)
  pub counted : line_feeds text ≡ line_feeds (drop (k + 1) text) + 1

-- a text with no line feed stays as it is
pub record IsUncut (text : List ℕ) : Type 0 where
  pub written : with_bars text ≡ text
  pub counted : line_feeds text ≡ 0

pub later : (b : ℕ) (bs : List ℕ) (k : ℕ) → IsFirstByte (is_byte 10) (b ∷ bs) (Some (suc k)) → ((b == 10) ≡ false) × IsFirstByte (is_byte 10) bs (Some k)
later b bs k (none, here) = (by_test (b == 10) refl, (record { low = omega arith; high = omega (arith, none.high); before = λ i from below is. none.before (suc i) (omega arith) (omega (arith, below)) is }, here))
  where
    by_test : (t : Bool) → (b == 10) ≡ t → (b == 10) ≡ false
    by_test true is = absurd (none.before zero (omega arith) (omega arith) is)
    by_test false is = is

pub first_cuts : (text : List ℕ) (k : ℕ) → IsFirstByte (is_byte 10) text (Some k) → IsCutAt text k
first_cuts [] k (none, here) = absurd (omega (arith, none.high))
first_cuts (b ∷ bs) zero (none, here) = let is : (b == 10) ≡ true = here in record { written = rw is (ap (λ (c : ℕ). c ∷ 124 ∷ with_bars bs) (sym (eqb-true b 10 is))); counted = rw is refl }
first_cuts (b ∷ bs) (suc k) first =
    let next = later b bs k first in
    let rest = first_cuts bs k next.1 in
    let size : suc (k + 1) ≡ suc k + 1 = omega arith in
    record {
      written = rw next.0 (ap (λ (t : List ℕ). b ∷ t) rest.written ∙ ap (λ n. take n (b ∷ bs) ++ 124 ∷ with_bars (drop n (b ∷ bs))) size);
      counted = rw next.0 (rest.counted ∙ ap (λ n. line_feeds (drop n (b ∷ bs)) + 1) size);
    }

pub none_cuts : (text : List ℕ) → IsFirstByte (is_byte 10) text None → IsUncut text
none_cuts [] none = record { written = refl; counted = refl }
none_cuts (b ∷ bs) none = by_test (b == 10) refl (none_cuts bs (λ i from below is. none (suc i) (omega arith) (omega (arith, below)) is))
  where
    by_test : (t : Bool) → (b == 10) ≡ t → IsUncut bs → IsUncut (b ∷ bs)
    by_test true is rest = absurd (none zero (omega arith) (omega arith) is)
    by_test false is rest = record { written = rw is (ap (λ (t : List ℕ). b ∷ t) rest.written); counted = rw is rest.counted }

-- what `&text[i..]` reads
pub rest_is : (i : ℕ) (text : List ℕ) → take (length text - i) (drop i text) ≡ drop i text
rest_is i text = ap (λ n. take n (drop i text)) (sym (length-drop i text)) ∙ take-length (drop i text)

-- one line of a run was added, with the bar behind it
pub record IsCutOff (run old new : List ℕ) (at next : ℕ) : Type 0 where
  pub inside : next ≤ length run
  pub written : new ++ with_bars (drop next run) ≡ old ++ with_bars (drop at run)
  pub counted : line_feeds (drop at run) ≡ line_feeds (drop next run) + 1

pub cut_off : (run old mid new : List ℕ) (at n : ℕ) → IsFirstByte (is_byte 10) (take (length run - at) (drop at run)) (Some n)
    → mid ≡ old ++ take (at + n + 1 - at) (drop at run) → new ≡ mid ++ 124 ∷ [] → IsCutOff run old new at (at + n + 1)
cut_off run old mid new at n first line bar =
    let here = rw rest_is at first in
    let cut = first_cuts (drop at run) n here in
    let next : drop (n + 1) (drop at run) ≡ drop (at + n + 1) run = drop-drop (n + 1) at run ∙ ap (λ i. drop i run) (omega arith) in
    let size : at + n + 1 - at ≡ n + 1 = omega arith in
    let rest = with_bars (drop (at + n + 1) run) in
    record {
      inside = omega (arith, here.0.high, length-drop at run);
      written =
          ap (λ (t : List ℕ). t ++ rest) (bar ∙ ap (λ (t : List ℕ). t ++ 124 ∷ []) (line ∙ ap (λ m. old ++ take m (drop at run)) size))
          ∙ append_assoc (old ++ take (n + 1) (drop at run)) (124 ∷ []) rest
          ∙ append_assoc old (take (n + 1) (drop at run)) (124 ∷ rest)
          ∙ ap (λ (t : List ℕ). old ++ (take (n + 1) (drop at run) ++ 124 ∷ with_bars t)) (sym next)
          ∙ ap (λ (t : List ℕ). old ++ t) (sym cut.written);
      counted = cut.counted ∙ ap (λ (t : List ℕ). line_feeds t + 1) next;
    }

-- what is left of a run has no line feed
pub uncut : (run : List ℕ) (at : ℕ) → IsFirstByte (is_byte 10) (take (length run - at) (drop at run)) None → IsUncut (drop at run)
uncut run at none = none_cuts (drop at run) (rw rest_is at none)

-- a run that begins at a place leads on to the place behind it
run-drop : (text run : List ℕ) (at : ℕ) → run ≡ take (length run) (drop at text) → run ++ drop (at + length run) text ≡ drop at text
run-drop text run at e =
    ap (λ l. l ++ drop (at + length run) text) e
    ∙ ap (λ l. take (length run) (drop at text) ++ l) (sym (drop-drop (length run) at text))
    ∙ take-append-drop (length run) (drop at text)

-- a run does not go past the end
pub run-in_text : (text run : List ℕ) (at : ℕ) → at ≤ length text → run ≡ take (length run) (drop at text) → at + length run ≤ length text
run-in_text text run at le e = omega (arith, ap length e, length-take (length run) (drop at text), length-drop at text)

pub run-written : (text run old new : List ℕ) (at : ℕ) → run ≡ take (length run) (drop at text) → new ≡ old ++ with_bars run → new ++ with_bars (drop (at + length run) text) ≡ old ++ with_bars (drop at text)
run-written text run old new at e is =
    ap (λ (t : List ℕ). t ++ with_bars (drop (at + length run) text)) is
    ∙ append_assoc old (with_bars run) (with_bars (drop (at + length run) text))
    ∙ ap (λ (t : List ℕ). old ++ t) (sym (with_bars-append run (drop (at + length run) text)) ∙ ap with_bars (run-drop text run at e))

pub run-counted : (text run : List ℕ) (at : ℕ) → run ≡ take (length run) (drop at text) → line_feeds run + line_feeds (drop (at + length run) text) ≡ line_feeds (drop at text)
run-counted text run at e = sym (line_feeds-append run (drop (at + length run) text)) ∙ ap line_feeds (run-drop text run at e)

-- at the end of the text nothing is left
pub end-drop : (text : List ℕ) (at : ℕ) → length text ≤ at → at ≤ length text → drop at text ≡ []
end-drop text at past le = let e : at ≡ length text = omega arith in ap (λ n. drop n text) e ∙ drop-length text

-- ---- the law of pieces

join-before : (b : ℕ) (pieces : List (List ℕ)) → join_with_byte 10 (before_first_piece b pieces) ≡ b ∷ join_with_byte 10 pieces
join-before b [] = refl
join-before b (p ∷ []) = refl
join-before b (p ∷ q ∷ pieces) = refl

-- there is a first piece
abbrev Some_piece : List (List ℕ) → Type 0
Some_piece pieces = (p : List ℕ) × (ps : List (List ℕ)) × (pieces ≡ p ∷ ps)

before_some : (b : ℕ) (pieces : List (List ℕ)) → Some_piece (before_first_piece b pieces)
before_some b [] = (b ∷ [], [], refl)
before_some b (p ∷ ps) = (b ∷ p, ps, refl)

cut_some : (bs : List ℕ) → Some_piece (cut_at_line_feeds bs)
cut_some [] = ([], [], refl)
cut_some (b ∷ bs) =
    elim (b == 10) as (λ t. Some_piece (if t then [] ∷ cut_at_line_feeds bs else before_first_piece b (cut_at_line_feeds bs))) [
      | true ↦ ([], cut_at_line_feeds bs, refl)
      | false ↦ before_some b (cut_at_line_feeds bs)
    ]

join-after : (bs : List ℕ) → join_with_byte 10 ([] ∷ cut_at_line_feeds bs) ≡ 10 ∷ join_with_byte 10 (cut_at_line_feeds bs)
join-after bs = let some = cut_some bs in rw some.2 refl

pub pieces_make_text : PiecesMakeTheText
pieces_make_text [] = (refl, (tt, tt))
pieces_make_text (b ∷ bs) = by_test (b == 10) refl (pieces_make_text bs)
  where
    by_test : (t : Bool) → (b == 10) ≡ t → (join_with_byte 10 (cut_at_line_feeds bs) ≡ bs) × AreLines (cut_at_line_feeds bs) → (join_with_byte 10 (cut_at_line_feeds (b ∷ bs)) ≡ b ∷ bs) × AreLines (cut_at_line_feeds (b ∷ bs))
    by_test true is rest = rw is (join-after bs ∙ (λ k. sym (eqb-true b 10 is) k ∷ rest.0 k), (tt, rest.1))
    by_test false is rest = rw is (join-before b (cut_at_line_feeds bs) ∙ ap (λ (l : List ℕ). b ∷ l) rest.0, lines-before b (cut_at_line_feeds bs) (is_other b is) rest.1)

bars-are_lines : (pieces : List (List ℕ)) → AreLines pieces → AreLines (map (λ p. 124 ∷ p) pieces)
bars-are_lines [] h = tt
bars-are_lines (p ∷ ps) h = (((λ same. absurd (omega (arith, same))), h.0), bars-are_lines ps h.1)

pub barred-are_lines : (text : List ℕ) → AreLines (barred text)
barred-are_lines text = bars-are_lines (cut_at_line_feeds text) (pieces_make_text text).1
