-- A macro's text is replaced lexeme by lexeme.
use Rattle.std.proofs.Common.{◌≡◌, ℕ, suc, ◌+◌, ◌<◌, Bool, List, [], ◌∷◌, ◌++◌, length, take, drop, Option, unwrap_or, refl, ap, sym, ◌∙◌, arith, append_assoc}
use Rattle.std.proofs.lemmas.List.{append-nil}
use Rattle.sve_macro.specs.declared.lexeme.Kind.{Kind}
use Rattle.sve_macro.specs.declared.lexeme.Kind.TheVariants.{Word, Plain, Joint, Quote, EscapedQuote}
use Rattle.sve_macro.specs.Cut.{pieces}
use Rattle.sve_macro.specs.Lexemes.{Lexeme, first_kind, lexeme_rest, between_after, first_lexeme}
use Rattle.sve_macro.specs.Substitution.{value_of, replaced}
use Rattle.sve_macro.proofs.CutSteps.{pieces-nil, pieces-cons}

pub lexemes_step : (between : Bool) (text : List ℕ) → 0 < length text →
    pieces first_lexeme between text ≡ record { kind = first_kind text; text = take (1 + lexeme_rest between text) text } ∷ pieces first_lexeme (between_after between (first_kind text)) (drop (1 + lexeme_rest between text) text)
lexemes_step between [] h = absurd (omega arith)
lexemes_step between (v ∷ vs) h =
    pieces-cons first_lexeme between v vs
    ∙ ap (λ n. record { kind = first_kind (v ∷ vs); text = take (1 + lexeme_rest between (v ∷ vs)) (v ∷ vs) } ∷ pieces first_lexeme (between_after between (first_kind (v ∷ vs))) (drop n (v ∷ vs)))
    (let e : suc (lexeme_rest between (v ∷ vs)) ≡ 1 + lexeme_rest between (v ∷ vs) = omega arith in e)

pub goes_on : (f : List ℕ → Option (List ℕ)) (out out' whole text text' piece : List ℕ) (between between' : Bool) (kind : Kind) (len : ℕ) →
    out ++ replaced f (pieces first_lexeme between text) ≡ whole → 0 < length text → kind ≡ first_kind text → len ≡ 1 + lexeme_rest between text →
    piece ≡ take len text → out' ≡ out ++ value_of f kind piece → between' ≡ between_after between kind → text' ≡ drop len text → out' ++ replaced f (pieces first_lexeme between' text') ≡ whole
goes_on f out out' whole text text' piece between between' kind len h s k e p o b r =
    let rest = replaced f (pieces first_lexeme between' text') in
    ap (λ x. x ++ rest) o
    ∙ append_assoc out (value_of f kind piece) rest
    ∙ ap (λ x. out ++ x)
    (ap (λ t. value_of f kind t ++ rest) p
    ∙ ap (λ t. value_of f kind (take len text) ++ replaced f (pieces first_lexeme between' t)) r
    ∙ ap (λ z. value_of f kind (take len text) ++ replaced f (pieces first_lexeme z (drop len text))) b
    ∙ ap (λ n. value_of f kind (take n text) ++ replaced f (pieces first_lexeme (between_after between kind) (drop n text))) e
    ∙ ap (λ x. value_of f x (take (1 + lexeme_rest between text) text) ++ replaced f (pieces first_lexeme (between_after between x) (drop (1 + lexeme_rest between text) text))) k
    ∙ sym (ap (λ xs. replaced f xs) (lexemes_step between text s)))
    ∙ h

pub ends : (f : List ℕ → Option (List ℕ)) (out whole text : List ℕ) (between : Bool) → out ++ replaced f (pieces first_lexeme between text) ≡ whole → length text ≡ 0 → out ≡ whole
ends f out whole [] between h e = sym (ap (λ xs. out ++ replaced f xs) (pieces-nil first_lexeme between) ∙ append-nil out) ∙ h
ends f out whole (v ∷ vs) between h e = absurd (omega arith)

value_same : (f g : List ℕ → Option (List ℕ)) (k : Kind) (t : List ℕ) → ((word : List ℕ) → f word ≡ g word) → value_of f k t ≡ value_of g k t
value_same f g Word t h = ap (λ o. unwrap_or o t) (h t)
value_same f g Plain t h = refl
value_same f g Joint t h = refl
value_same f g Quote t h = refl
value_same f g EscapedQuote t h = refl

-- what words stand for is all that counts
pub replaced_same : (f g : List ℕ → Option (List ℕ)) (xs : List Lexeme) → ((word : List ℕ) → f word ≡ g word) → replaced f xs ≡ replaced g xs
replaced_same f g [] h = refl
replaced_same f g (x ∷ xs) h =
    ap (λ z. z ++ replaced f xs) (value_same f g x.kind x.text h) ∙ ap (λ z. value_of g x.kind x.text ++ z) (replaced_same f g xs h)
