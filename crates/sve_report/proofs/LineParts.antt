-- The first line of a text, and the text after it.
use Rattle.std.proofs.Common.{◌≡◌, ℕ, true, zero, suc, ◌+◌, ◌-◌, ◌==◌, ◌≤◌, List, [], ◌∷◌, ◌++◌, Some, None, length, take, drop, eq-eqb, refl, ap, sym, ◌∙◌, subst, append_assoc, arith}
use Rattle.std.proofs.lemmas.List.{drop-drop, length-drop}
use Rattle.std.proofs.lemmas.Bool.{eqb-true}
use Rattle.memchr.specs.Find.{IsFirstByte, is_byte}
use Rattle.sve_report.specs.Lines.{lines_in, ended, text_of_lines, Lacks}
use Rattle.sve_report.proofs.LineTexts.{is_other, lines_in-line}
use Rattle.sve_report.proofs.Cuts.{later, rest_is}
use Rattle.sve_report.proofs.ReadBack.{front_gone}

-- a text whose first line feed is at this place
record HasLine (text : List ℕ) (k : ℕ) : Type 0 where
  parts : text ≡ take k text ++ 10 ∷ drop (k + 1) text
  lacks : Lacks 10 (take k text)

first_line : (text : List ℕ) (k : ℕ) → IsFirstByte (is_byte 10) text (Some k) → HasLine text k
first_line [] k (none, here) = absurd (omega (arith, none.high))
first_line (b ∷ bs) zero (none, here) = let is : (b == 10) ≡ true = here in record { parts = ap (λ (c : ℕ). c ∷ bs) (eqb-true b 10 is); lacks = tt }
first_line (b ∷ bs) (suc k) first =
    let next = later b bs k first in
    let rest = first_line bs k next.1 in
    let size : suc (k + 1) ≡ suc k + 1 = omega arith in
    record { parts = ap (λ (t : List ℕ). b ∷ t) rest.parts ∙ ap (λ n. b ∷ (take k bs ++ 10 ∷ drop n (b ∷ bs))) size; lacks = (is_other b next.0, rest.lacks) }

lacks_all : (text : List ℕ) → IsFirstByte (is_byte 10) text None → Lacks 10 text
lacks_all [] none = tt
lacks_all (b ∷ bs) none = ((λ same. absurd (none zero (omega arith) (omega arith) (eq-eqb b 10 same))), lacks_all bs (λ i from below is. none (suc i) (omega arith) (omega (arith, below)) is))

has_end : (line rest : List ℕ) → Lacks 10 (ended line ++ rest) → ⊥
has_end [] rest h = h.0 refl
has_end (b ∷ bs) rest h = has_end bs rest h.1

pub no_line : (text : List ℕ) → IsFirstByte (is_byte 10) text None → text_of_lines (lines_in text) ≡ text → lines_in text ≡ []
no_line text none whole = go (lines_in text) refl
  where
    go : (lines : List (List ℕ)) → lines_in text ≡ lines → lines_in text ≡ []
    go [] e = e
    go (l ∷ ls) e = absurd (has_end l (text_of_lines ls) (subst (Lacks 10) (sym whole ∙ ap text_of_lines e) (lacks_all text none)))

-- the lines of what is left of a text, and that it has whole lines
pub record IsLineOff (text : List ℕ) (before after : List (List ℕ)) (at next : ℕ) : Type 0 where
  pub inside : next ≤ length text
  pub same : after ++ lines_in (drop next text) ≡ before ++ lines_in (drop at text)
  pub whole : text_of_lines (lines_in (drop next text)) ≡ drop next text

pub line_off : (text : List ℕ) (before after : List (List ℕ)) (at n : ℕ) → text_of_lines (lines_in (drop at text)) ≡ drop at text
    → IsFirstByte (is_byte 10) (take (length text - at) (drop at text)) (Some n) → after ≡ before ++ take (at + n - at) (drop at text) ∷ [] → IsLineOff text before after at (at + n + 1)
line_off text before after at n whole first added =
    let here = rw rest_is at first in
    let line = first_line (drop at text) n here in
    let next : drop (n + 1) (drop at text) ≡ drop (at + n + 1) text = drop-drop (n + 1) at text ∙ ap (λ i. drop i text) (omega arith) in
    let size : at + n - at ≡ n = omega arith in
    let first_of = take n (drop at text) in
    let rest = drop (at + n + 1) text in
    let parts : drop at text ≡ first_of ++ 10 ∷ rest = line.parts ∙ ap (λ (t : List ℕ). first_of ++ 10 ∷ t) next in
    let lines : lines_in (drop at text) ≡ first_of ∷ lines_in rest = ap lines_in parts ∙ lines_in-line first_of rest line.lacks in
    let texts : ended first_of ++ text_of_lines (lines_in rest) ≡ ended first_of ++ rest = sym (ap text_of_lines lines) ∙ whole ∙ parts ∙ sym (append_assoc first_of (10 ∷ []) rest) in
    record {
      inside = omega (arith, here.0.high, length-drop at text);
      same = ap (λ (ls : List (List ℕ)). ls ++ lines_in rest) (added ∙ ap (λ m. before ++ take m (drop at text) ∷ []) size) ∙ append_assoc before (first_of ∷ []) (lines_in rest) ∙ ap (λ (ls : List (List ℕ)). before ++ ls) (sym lines);
      whole = front_gone (ended first_of) _ _ texts;
    }

pub all_off : (text : List ℕ) (lines : List (List ℕ)) (at : ℕ) → text_of_lines (lines_in (drop at text)) ≡ drop at text → IsFirstByte (is_byte 10) (take (length text - at) (drop at text)) None → lines_in (drop at text) ≡ []
all_off text lines at whole none = no_line (drop at text) (rw rest_is at none) whole
