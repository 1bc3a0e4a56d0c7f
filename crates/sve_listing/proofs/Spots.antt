-- From one byte of a text to the next: its line and its column.
use Rattle.std.proofs.Common.{◌≡◌, ℕ, ◌+◌, ◌≤◌, ◌<◌, ◌==◌, true, false, not, List, [], ◌∷◌, length, take, reverse, get_or, refl, ap, ◌∙◌, add-one, arith}
use Rattle.std.specs.List.{prefix_len, count_by}
use Rattle.std.proofs.Math.Seq.{take-suc}
use Rattle.std.proofs.lemmas.List.{reverse-append, length-reverse, length-take-le}
use Rattle.std.proofs.lemmas.List.Sums.{count_by_more_yes, count_by_more_no, count_by-le-length, prefix_len-le-length}
use Rattle.sve_bytes.specs.LineColumn.{is_line_feed}
use Rattle.sve_listing.specs.declared.spot.Spot.{Spot}
use Rattle.sve_listing.specs.Places.{IsSpotIn}

-- backwards from the next place there is first the byte here
back : (text : List ℕ) (n : ℕ) → n < length text → reverse (take (n + 1) text) ≡ get_or text n 0 ∷ reverse (take n text)
back text n h = ap (λ (k : ℕ). reverse (take k text)) (add-one n) ∙ ap reverse (take-suc text n 0 h) ∙ reverse-append (take n text) (get_or text n 0 ∷ [])

abbrev in_line : List ℕ → ℕ
in_line bs = prefix_len (λ b. not (is_line_feed b)) bs

pub behind_line_feed : (text : List ℕ) (s : Spot) → IsSpotIn text s → s.at < length text → (get_or text s.at 0 == 10) ≡ true → IsSpotIn text (record { at = s.at + 1; line = s.line + 1; column = 1 })
behind_line_feed text s here h is =
    let starts : in_line (get_or text s.at 0 ∷ reverse (take s.at text)) ≡ 0 = rw is refl in
    let first : in_line (reverse (take (s.at + 1) text)) ≡ 0 = ap (λ (bs : List ℕ). in_line bs) (back text s.at h) ∙ starts in
    let lines = count_by_more_yes is_line_feed text s.at 0 h is in record {
      within = omega (arith, h);
      line = omega (arith, here.line, lines);
      column = omega (arith, first);
    }

pub behind_other : (text : List ℕ) (s : Spot) → IsSpotIn text s → s.at < length text → (get_or text s.at 0 == 10) ≡ false → IsSpotIn text (record { at = s.at + 1; line = s.line; column = s.column + 1 })
behind_other text s here h is =
    let goes_on : in_line (get_or text s.at 0 ∷ reverse (take s.at text)) ≡ 1 + in_line (reverse (take s.at text)) = rw is refl in
    let further : in_line (reverse (take (s.at + 1) text)) ≡ 1 + in_line (reverse (take s.at text)) = ap (λ (bs : List ℕ). in_line bs) (back text s.at h) ∙ goes_on in
    let lines = count_by_more_no is_line_feed text s.at 0 h is in record {
      within = omega (arith, h);
      line = omega (arith, here.line, lines);
      column = omega (arith, here.column, further);
    }

-- there is no more before a byte than its offset says
pub small_line : (text : List ℕ) (s : Spot) → IsSpotIn text s → s.line ≤ s.at + 1
small_line text s here = omega (arith, here.line, count_by-le-length is_line_feed (take s.at text), length-take-le s.at text here.within)

pub small_column : (text : List ℕ) (s : Spot) → IsSpotIn text s → s.column ≤ s.at + 1
small_column text s here =
    omega (arith, here.column, prefix_len-le-length (λ b. not (is_line_feed b)) (reverse (take s.at text)), length-reverse (take s.at text), length-take-le s.at text here.within)
