use Rattle.std.proofs.Common.{◌≡◌, Some, false, refl, sym, ap, ◌∙◌}
use Rattle.sve_token.specs.declared.kind.Kind.{Kind}
use Rattle.sve_token.specs.declared.kind.Kind.TheVariants.{Plus, Minus, Bang, Tilde, Ampersand, TildeAmpersand, Pipe, TildePipe, Caret, TildeCaret, CaretTilde}
use Rattle.sve_grammar.specs.Token.{kind_at, same_kind}
use Rattle.sve_grammar.specs.Rule.{starts}
use Rattle.sve_grammar.specs.Expressions.{unary_operator}
use Rattle.sve_grammar.specs.Reading.{token}
use Rattle.sve_parse_word.proofs.Stands.{stands_here}
use Rattle.sve_parse_word.proofs.operators.unary_operator.Goals as goal

-- no other kind is an operator's
no_other : (k : Kind) → (k ≡ Plus → ⊥) → (k ≡ Minus → ⊥) → (k ≡ Bang → ⊥) → (k ≡ Tilde → ⊥) → (k ≡ Ampersand → ⊥) → (k ≡ TildeAmpersand → ⊥) → (k ≡ Pipe → ⊥) → (k ≡ TildePipe → ⊥) → (k ≡ Caret → ⊥) → (k ≡ TildeCaret → ⊥) → (k ≡ CaretTilde → ⊥) → starts unary_operator (Some k) ≡ false
unfolding unary_operator same_kind
no_other Plus h _ _ _ _ _ _ _ _ _ _ = absurd (h refl)
no_other Minus _ h _ _ _ _ _ _ _ _ _ = absurd (h refl)
no_other Bang _ _ h _ _ _ _ _ _ _ _ = absurd (h refl)
no_other Tilde _ _ _ h _ _ _ _ _ _ _ = absurd (h refl)
no_other Ampersand _ _ _ _ h _ _ _ _ _ _ = absurd (h refl)
no_other TildeAmpersand _ _ _ _ _ h _ _ _ _ _ = absurd (h refl)
no_other Pipe _ _ _ _ _ _ h _ _ _ _ = absurd (h refl)
no_other TildePipe _ _ _ _ _ _ _ h _ _ _ = absurd (h refl)
no_other Caret _ _ _ _ _ _ _ _ h _ _ = absurd (h refl)
no_other TildeCaret _ _ _ _ _ _ _ _ _ h _ = absurd (h refl)
no_other CaretTilde _ _ _ _ _ _ _ _ _ _ h = absurd (h refl)
no_other k _ _ _ _ _ _ _ _ _ _ _ = refl

pub returns-in-None : goal.returns-in-None
unfolding unary_operator
returns-in-None c = rw (sym c.in-None.ensures) refl

pub returns-in-Plus : goal.returns-in-Plus
unfolding unary_operator token same_kind
returns-in-Plus c =
    let here : kind_at c.args.tokens.now c.args.at ≡ Some Plus = sym c.in-Some.ensures ∙ ap (λ (k : Kind). Some k) c.in-Plus.is in
    (rw here refl, λ below. rw here refl, stands_here _ _ _ here)

pub returns-in-Minus : goal.returns-in-Minus
unfolding unary_operator token same_kind
returns-in-Minus c =
    let here : kind_at c.args.tokens.now c.args.at ≡ Some Minus = sym c.in-Some.ensures ∙ ap (λ (k : Kind). Some k) c.in-Minus.is in
    (rw here refl, λ below. rw here refl, stands_here _ _ _ here)

pub returns-in-Bang : goal.returns-in-Bang
unfolding unary_operator token same_kind
returns-in-Bang c =
    let here : kind_at c.args.tokens.now c.args.at ≡ Some Bang = sym c.in-Some.ensures ∙ ap (λ (k : Kind). Some k) c.in-Bang.is in
    (rw here refl, λ below. rw here refl, stands_here _ _ _ here)

pub returns-in-Tilde : goal.returns-in-Tilde
unfolding unary_operator token same_kind
returns-in-Tilde c =
    let here : kind_at c.args.tokens.now c.args.at ≡ Some Tilde = sym c.in-Some.ensures ∙ ap (λ (k : Kind). Some k) c.in-Tilde.is in
    (rw here refl, λ below. rw here refl, stands_here _ _ _ here)

pub returns-in-Ampersand : goal.returns-in-Ampersand
unfolding unary_operator token same_kind
returns-in-Ampersand c =
    let here : kind_at c.args.tokens.now c.args.at ≡ Some Ampersand = sym c.in-Some.ensures ∙ ap (λ (k : Kind). Some k) c.in-Ampersand.is in
    (rw here refl, λ below. rw here refl, stands_here _ _ _ here)

pub returns-in-TildeAmpersand : goal.returns-in-TildeAmpersand
unfolding unary_operator token same_kind
returns-in-TildeAmpersand c =
    let here : kind_at c.args.tokens.now c.args.at ≡ Some TildeAmpersand = sym c.in-Some.ensures ∙ ap (λ (k : Kind). Some k) c.in-TildeAmpersand.is in
    (rw here refl, λ below. rw here refl, stands_here _ _ _ here)

pub returns-in-Pipe : goal.returns-in-Pipe
unfolding unary_operator token same_kind
returns-in-Pipe c =
    let here : kind_at c.args.tokens.now c.args.at ≡ Some Pipe = sym c.in-Some.ensures ∙ ap (λ (k : Kind). Some k) c.in-Pipe.is in
    (rw here refl, λ below. rw here refl, stands_here _ _ _ here)

pub returns-in-TildePipe : goal.returns-in-TildePipe
unfolding unary_operator token same_kind
returns-in-TildePipe c =
    let here : kind_at c.args.tokens.now c.args.at ≡ Some TildePipe = sym c.in-Some.ensures ∙ ap (λ (k : Kind). Some k) c.in-TildePipe.is in
    (rw here refl, λ below. rw here refl, stands_here _ _ _ here)

pub returns-in-Caret : goal.returns-in-Caret
unfolding unary_operator token same_kind
returns-in-Caret c =
    let here : kind_at c.args.tokens.now c.args.at ≡ Some Caret = sym c.in-Some.ensures ∙ ap (λ (k : Kind). Some k) c.in-Caret.is in
    (rw here refl, λ below. rw here refl, stands_here _ _ _ here)

pub returns-in-TildeCaret : goal.returns-in-TildeCaret
unfolding unary_operator token same_kind
returns-in-TildeCaret c =
    let here : kind_at c.args.tokens.now c.args.at ≡ Some TildeCaret = sym c.in-Some.ensures ∙ ap (λ (k : Kind). Some k) c.in-TildeCaret.is in
    (rw here refl, λ below. rw here refl, stands_here _ _ _ here)

pub returns-in-CaretTilde : goal.returns-in-CaretTilde
unfolding unary_operator token same_kind
returns-in-CaretTilde c =
    let here : kind_at c.args.tokens.now c.args.at ≡ Some CaretTilde = sym c.in-Some.ensures ∙ ap (λ (k : Kind). Some k) c.in-CaretTilde.is in
    (rw here refl, λ below. rw here refl, stands_here _ _ _ here)

pub returns-in_default : goal.returns-in_default
returns-in_default c = rw (sym c.in-Some.ensures) (no_other _ c.in_default.not-Plus c.in_default.not-Minus c.in_default.not-Bang c.in_default.not-Tilde c.in_default.not-Ampersand c.in_default.not-TildeAmpersand c.in_default.not-Pipe c.in_default.not-TildePipe c.in_default.not-Caret c.in_default.not-TildeCaret c.in_default.not-CaretTilde)
