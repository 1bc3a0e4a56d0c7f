-- A code is known by its spelling.
use Rattle.std.proofs.Common.{◌≡◌, ◌∙◌, cond, Option, Some, None, List, [], ◌∷◌, ℕ, refl, sym, ap}
use Rattle.std.specs.Str.{bytes_eq}
use Rattle.sve_diag.specs.declared.code.Code.{Code}
use Rattle.sve_diag.specs.declared.code.Code.TheVariants.{P01, P02, P03, P04, P05, P06, P07, P08, P09, P10, P11, P12, S01, S02, S03, S04, N01, N02, N03, N04, N05, N06, N07, N08, N09, N10, N11, C01, C02, C03, C04, C05, C06, C07, C08, C09, C10, E01, E02, E03, E04, E05, E06, E07, E08, E09, E10, E11, E12, E13, E14, E15, E16, E17}
use Rattle.sve_diag.specs.CodeText.{code_text}

-- the first code of a list that is spelled so
abbrev code_among : List Code → List ℕ → Option Code
code_among [] text = None
code_among (c ∷ cs) text = cond (bytes_eq (code_text c) text) (Some c) (code_among cs text)

abbrev all_codes : List Code
all_codes =
    P01 ∷ P02 ∷ P03 ∷ P04 ∷ P05 ∷ P06 ∷ P07 ∷ P08 ∷ P09 ∷ P10 ∷ P11 ∷ P12 ∷ S01 ∷ S02 ∷ S03 ∷ S04 ∷ N01 ∷ N02 ∷ N03 ∷ N04 ∷ N05 ∷ N06 ∷ N07 ∷ N08 ∷ N09 ∷ N10 ∷ N11 ∷ C01 ∷ C02 ∷ C03 ∷ C04 ∷ C05 ∷ C06 ∷ C07 ∷ C08 ∷ C09 ∷ C10 ∷ E01 ∷ E02 ∷ E03 ∷ E04 ∷ E05 ∷ E06 ∷ E07 ∷ E08 ∷ E09 ∷ E10 ∷ E11 ∷ E12 ∷ E13 ∷ E14 ∷ E15 ∷ E16 ∷ E17 ∷ []

found : (c : Code) → code_among all_codes (code_text c) ≡ Some c
found P01 = refl
found P02 = refl
found P03 = refl
found P04 = refl
found P05 = refl
found P06 = refl
found P07 = refl
found P08 = refl
found P09 = refl
found P10 = refl
found P11 = refl
found P12 = refl
found S01 = refl
found S02 = refl
found S03 = refl
found S04 = refl
found N01 = refl
found N02 = refl
found N03 = refl
found N04 = refl
found N05 = refl
found N06 = refl
found N07 = refl
found N08 = refl
found N09 = refl
found N10 = refl
found N11 = refl
found C01 = refl
found C02 = refl
found C03 = refl
found C04 = refl
found C05 = refl
found C06 = refl
found C07 = refl
found C08 = refl
found C09 = refl
found C10 = refl
found E01 = refl
found E02 = refl
found E03 = refl
found E04 = refl
found E05 = refl
found E06 = refl
found E07 = refl
found E08 = refl
found E09 = refl
found E10 = refl
found E11 = refl
found E12 = refl
found E13 = refl
found E14 = refl
found E15 = refl
found E16 = refl
found E17 = refl

pub code_exact : (c d : Code) → code_text c ≡ code_text d → c ≡ d
code_exact c d e =
    let same : Some c ≡ Some d = sym (found c) ∙ ap (code_among all_codes) e ∙ found d in
    cc
