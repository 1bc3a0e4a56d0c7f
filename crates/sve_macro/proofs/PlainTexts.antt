-- Text without formals and backticks stays as it is.
use Rattle.std.proofs.Common.{◌≡◌, ℕ, zero, suc, ◌+◌, ◌≤◌, ◌==◌, Bool, true, false, cond, List, [], ◌∷◌, ◌++◌, length, take, drop, Option, None, unwrap_or, refl, ap, ◌∙◌, subst, arith, length-drop}
use Rattle.std.proofs.lemmas.List.{take-append-drop}
use Rattle.sve_bytes.specs.Bytes.{continues_identifier}
use Rattle.sve_macro.specs.declared.lexeme.Kind.TheVariants.{Word, Plain}
use Rattle.sve_macro.specs.Cut.{pieces}
use Rattle.sve_macro.specs.Laws.{HasNoFormal, HasNoBacktick, PlainTextStays}
use Rattle.sve_macro.specs.Lexemes.{Lexeme, sign_kind, first_kind, lexeme_rest, between_after, first_lexeme}
use Rattle.sve_macro.specs.Substitution.{value_of, replaced, actual_of}
use Rattle.sve_macro.proofs.CutSteps.{pieces-nil}
use Rattle.sve_macro.proofs.Texts.{lexemes_step}

none_behind : (n : ℕ) (text : List ℕ) → HasNoBacktick text → HasNoBacktick (drop n text)
none_behind zero text h = h
none_behind (suc n) [] h = h
none_behind (suc n) (v ∷ vs) h = none_behind n vs h.1

-- the first lexeme of such a text stands for itself
stands_for_itself : (a : Bool) (f : List ℕ → Option (List ℕ)) (v : ℕ) (vs t : List ℕ) → continues_identifier v ≡ a → (v == 96) ≡ false → (first_kind (v ∷ vs) ≡ Word → f t ≡ None) → value_of f (first_kind (v ∷ vs)) t ≡ t
stands_for_itself true f v vs t e b h =
    let word : first_kind (v ∷ vs) ≡ Word = ap (λ z. cond z Word (cond (v == 96) (sign_kind vs) Plain)) e in
    ap (λ k. value_of f k t) word ∙ ap (λ o. unwrap_or o t) (h word)
stands_for_itself false f v vs t e b h =
    ap (λ k. value_of f k t) (ap (λ z. cond z Word (cond (v == 96) (sign_kind vs) Plain)) e ∙ ap (λ z. cond z (sign_kind vs) Plain) b)

stays : (n : ℕ) (f : List ℕ → Option (List ℕ)) (between : Bool) (text : List ℕ) → length text ≤ n → HasNoBacktick text → HasNoFormal f (pieces first_lexeme between text) → replaced f (pieces first_lexeme between text) ≡ text
stays n f between [] l b h = ap (λ xs. replaced f xs) (pieces-nil first_lexeme between)
stays zero f between (v ∷ vs) l b h = absurd (omega arith)
stays (suc n) f between (v ∷ vs) l b h =
    let text = v ∷ vs in
    let len = 1 + lexeme_rest between text in
    let step = lexemes_step between text (omega arith) in
    let formal = subst (λ (xs : List Lexeme). HasNoFormal f xs) step h in
    ap (λ xs. replaced f xs) step
    ∙ ap (λ x. x ++ replaced f (pieces first_lexeme (between_after between (first_kind text)) (drop len text))) (stands_for_itself (continues_identifier v) f v vs (take len text) refl b.0 formal.0)
    ∙ ap (λ x. take len text ++ x) (stays n f (between_after between (first_kind text)) (drop len text) (omega (arith, length-drop len text)) (none_behind len text b) formal.1)
    ∙ take-append-drop len text

pub plain_text_stays : PlainTextStays
plain_text_stays m actuals b h = stays (length m.text) (actual_of m actuals) false m.text (omega arith) b h
