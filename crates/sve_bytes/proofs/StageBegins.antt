-- Wherever a reader stands, some bytes end the step that it reads.
use Rattle.std.proofs.Common.{◌≡◌, inl, inr, ℕ, ◌≤◌, Bool, true, false, not, cond, ◌&&◌, ◌==◌, nat_le, None, List, [], ◌∷◌, ◌++◌, length, refl, sym, ap, subst, arith, length-append}
use Rattle.std.proofs.lemmas.Bool.{and_parts, false≢true, leb-true, or_cases, cases_Bool}
use Rattle.std.proofs.lemmas.List.{append-nil}
use Rattle.std.specs.Char.{is_ascii_graphic}
use Rattle.std.specs.Cmp.Lexicographic.{bytes_decides}
use Rattle.std.specs.List.{list_all}
use Rattle.std.specs.Str.{bytes_eq}
use Rattle.sve_bytes.specs.declared.path.Step.{Step}
use Rattle.sve_bytes.specs.declared.path_reading.Stage.{Stage}
use Rattle.sve_bytes.specs.declared.path_reading.Stage.TheVariants.{Before, Simple, Escaped, Whole, Open, Minus, Digits}
use Rattle.sve_bytes.specs.Keywords.{Words, keywords_from, is_among, is_keyword_text, a_words, b_words, c_words, d_words, e_words, f_words, g_words, h_words, i_words, j_words, l_words, m_words, n_words, o_words, p_words, r_words, s_words, t_words, u_words, v_words, w_words, x_words}
use Rattle.sve_bytes.specs.PathReading.{SpellsStep}
use Rattle.sve_bytes.specs.PathStages.{Stands, step_found}
use Rattle.sve_bytes.proofs.PathFronts.{BeginsStep}
use Rattle.sve_bytes.proofs.StageIndices.{open_digit, minus_digit, digits_close}
use Rattle.sve_bytes.proofs.StageNames.{after_one, form_of_more, simple_is_step, escaped_is_step}
use Rattle.sve_bytes.proofs.TextSplits.{byte_of_all}

-- ---- keywords are short and have no `$`

abbrev fits : List ℕ → Bool
fits word = nat_le (length word) 20 && list_all (λ b. not (b == 36)) word

either : (t : Bool) (xs ys : Words) → list_all fits xs ≡ true → list_all fits ys ≡ true → list_all fits (cond t xs ys) ≡ true
either true xs ys h k = h
either false xs ys h k = k

all_fit : (b : ℕ) → list_all fits (keywords_from b) ≡ true
unfolding keywords_from
all_fit b =
    either (b == 97) a_words _ refl
    (either (b == 98) b_words _ refl
    (either (b == 99) c_words _ refl
    (either (b == 100) d_words _ refl
    (either (b == 101) e_words _ refl
    (either (b == 102) f_words _ refl
    (either (b == 103) g_words _ refl
    (either (b == 104) h_words _ refl
    (either (b == 105) i_words _ refl
    (either (b == 106) j_words _ refl
    (either (b == 108) l_words _ refl
    (either (b == 109) m_words _ refl
    (either (b == 110) n_words _ refl
    (either (b == 111) o_words _ refl
    (either (b == 112) p_words _ refl
    (either (b == 114) r_words _ refl
    (either (b == 115) s_words _ refl
    (either (b == 116) t_words _ refl
    (either (b == 117) u_words _ refl
    (either (b == 118) v_words _ refl
    (either (b == 119) w_words _ refl
    (either (b == 120) x_words _ refl
    (refl))))))))))))))))))))))

among_fits : (words : Words) (text : List ℕ) → list_all fits words ≡ true → is_among words text ≡ true → fits text ≡ true
among_fits [] text h found = absurd (false≢true found)
among_fits (w ∷ words) text h found =
    let both = and_parts (fits w) (list_all fits words) h in
    elim (or_cases (bytes_eq w text) (is_among words text) found) [
      | inl here ↦ subst (λ (x : List ℕ). fits x ≡ true) ((bytes_decides w text).0 here) both.0
      | inr later ↦ among_fits words text both.1 later
    ]

keyword_fits : (text : List ℕ) → is_keyword_text text ≡ true → fits text ≡ true
keyword_fits [] h = absurd (false≢true h)
keyword_fits (b ∷ bs) h = among_fits (keywords_from b) (b ∷ bs) (all_fit b) h

keyword_short : (text : List ℕ) → is_keyword_text text ≡ true → length text ≤ 20
keyword_short text h = leb-true (length text) 20 (and_parts (nat_le (length text) 20) (list_all (λ b. not (b == 36)) text) (keyword_fits text h)).0

no_dollar : (text : List ℕ) → is_keyword_text (text ++ 36 ∷ []) ≡ false
no_dollar text =
    elim (cases_Bool (is_keyword_text (text ++ 36 ∷ []))) [
      | inl word ↦ absurd (false≢true (byte_of_all (λ b. not (b == 36)) text 36 [] (and_parts (nat_le (length (text ++ 36 ∷ [])) 20) (list_all (λ b. not (b == 36)) (text ++ 36 ∷ [])) (keyword_fits (text ++ 36 ∷ []) word)).1))
      | inr plain ↦ plain
    ]

plain_a : is_keyword_text (97 ∷ []) ≡ false
unfolding keywords_from
plain_a = refl

-- ---- the end of the step

with_rest : (text rest : List ℕ) (whole : List ℕ) (s : Step) → text ++ rest ≡ whole → SpellsStep whole s → BeginsStep text
with_rest text rest whole s e h = (rest, s, subst (λ (x : List ℕ). SpellsStep x s) (sym e) h)

pub begins_step : (text : List ℕ) (stage : Stage) → Stands text stage → BeginsStep text
begins_step text Before h =
    with_rest text (97 ∷ []) (97 ∷ []) (record { name = 97 ∷ []; index = None }) (ap (λ (x : List ℕ). x ++ 97 ∷ []) h) (simple_is_step (97 ∷ []) refl plain_a (omega arith))
begins_step text Simple h =
    elim (cases_Bool (is_keyword_text text)) [
      | inl word ↦
          let short = keyword_short text word in
          with_rest text (36 ∷ []) (text ++ 36 ∷ []) (record { name = text ++ 36 ∷ []; index = None }) refl (simple_is_step (text ++ 36 ∷ []) (form_of_more text 36 h.0 refl) (no_dollar text) (omega (arith, short, length-append text (36 ∷ []))))
      | inr plain ↦ with_rest text [] text (record { name = text; index = None }) (append-nil text) (simple_is_step text h.0 plain h.1)
    ]
begins_step text Escaped h = by h.0 h.1 h.2 h.3
  where
    by : (name : List ℕ) → text ≡ 92 ∷ name → list_all is_ascii_graphic name ≡ true → length name ≤ 1024 → BeginsStep text
    by [] e graphic limit = with_rest text (97 ∷ 32 ∷ []) (92 ∷ 97 ∷ 32 ∷ []) (record { name = 97 ∷ []; index = None }) (ap (λ (x : List ℕ). x ++ 97 ∷ 32 ∷ []) e) (escaped_is_step (97 ∷ []) refl (omega arith) (omega arith))
    by (b ∷ bs) e graphic limit = with_rest text (32 ∷ []) (92 ∷ (b ∷ bs) ++ 32 ∷ []) (record { name = b ∷ bs; index = None }) (ap (λ (x : List ℕ). x ++ 32 ∷ []) e) (escaped_is_step (b ∷ bs) graphic (omega arith) limit)
begins_step text (Whole f) h = with_rest text [] text (step_found f) (append-nil text) h.0
begins_step text (Open name) h =
    let digits = digits_close (text ++ 48 ∷ []) name.now false 0 (omega arith) (open_digit text name.now 48 h refl) in
    with_rest text (48 ∷ 93 ∷ []) ((text ++ 48 ∷ []) ++ 93 ∷ []) _ (sym (after_one text 48 (93 ∷ []))) digits.0
begins_step text (Minus name) h =
    let digits = digits_close (text ++ 49 ∷ []) name.now true 1 (omega arith, omega arith) (minus_digit text name.now 49 h refl) in
    with_rest text (49 ∷ 93 ∷ []) ((text ++ 49 ∷ []) ++ 93 ∷ []) _ (sym (after_one text 49 (93 ∷ []))) digits.0
begins_step text (Digits name negative size) h =
    let digits = digits_close text name.now negative size h.0 h.1 in
    with_rest text (93 ∷ []) (text ++ 93 ∷ []) _ refl digits.0
