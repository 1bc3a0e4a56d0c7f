use Rattle.std.proofs.Common.{◌≡◌, Some, false, refl, sym, ap, ◌∙◌}
use Rattle.sve_token.specs.declared.kind.Kind.{Kind}
use Rattle.sve_token.specs.declared.kind.Kind.TheVariants.{Assign, LessEqual, PlusAssign, MinusAssign, StarAssign, SlashAssign, PercentAssign, AmpersandAssign, PipeAssign, CaretAssign, LogicalShiftLeftAssign, LogicalShiftRightAssign, ArithmeticShiftLeftAssign, ArithmeticShiftRightAssign}
use Rattle.sve_grammar.specs.Token.{kind_at, same_kind}
use Rattle.sve_grammar.specs.Rule.{starts}
use Rattle.sve_grammar.specs.Statements.{assignment_operator}
use Rattle.sve_grammar.specs.Reading.{token}
use Rattle.sve_parse_word.proofs.Stands.{stands_here}
use Rattle.sve_parse_word.proofs.operators.assignment_operator.Goals as goal

-- no other kind is an operator's
no_other : (k : Kind) → (k ≡ Assign → ⊥) → (k ≡ LessEqual → ⊥) → (k ≡ PlusAssign → ⊥) → (k ≡ MinusAssign → ⊥) → (k ≡ StarAssign → ⊥) → (k ≡ SlashAssign → ⊥) → (k ≡ PercentAssign → ⊥) → (k ≡ AmpersandAssign → ⊥) → (k ≡ PipeAssign → ⊥) → (k ≡ CaretAssign → ⊥) → (k ≡ LogicalShiftLeftAssign → ⊥) → (k ≡ LogicalShiftRightAssign → ⊥) → (k ≡ ArithmeticShiftLeftAssign → ⊥) → (k ≡ ArithmeticShiftRightAssign → ⊥) → starts assignment_operator (Some k) ≡ false
unfolding assignment_operator same_kind
no_other Assign h _ _ _ _ _ _ _ _ _ _ _ _ _ = absurd (h refl)
no_other LessEqual _ h _ _ _ _ _ _ _ _ _ _ _ _ = absurd (h refl)
no_other PlusAssign _ _ h _ _ _ _ _ _ _ _ _ _ _ = absurd (h refl)
no_other MinusAssign _ _ _ h _ _ _ _ _ _ _ _ _ _ = absurd (h refl)
no_other StarAssign _ _ _ _ h _ _ _ _ _ _ _ _ _ = absurd (h refl)
no_other SlashAssign _ _ _ _ _ h _ _ _ _ _ _ _ _ = absurd (h refl)
no_other PercentAssign _ _ _ _ _ _ h _ _ _ _ _ _ _ = absurd (h refl)
no_other AmpersandAssign _ _ _ _ _ _ _ h _ _ _ _ _ _ = absurd (h refl)
no_other PipeAssign _ _ _ _ _ _ _ _ h _ _ _ _ _ = absurd (h refl)
no_other CaretAssign _ _ _ _ _ _ _ _ _ h _ _ _ _ = absurd (h refl)
no_other LogicalShiftLeftAssign _ _ _ _ _ _ _ _ _ _ h _ _ _ = absurd (h refl)
no_other LogicalShiftRightAssign _ _ _ _ _ _ _ _ _ _ _ h _ _ = absurd (h refl)
no_other ArithmeticShiftLeftAssign _ _ _ _ _ _ _ _ _ _ _ _ h _ = absurd (h refl)
no_other ArithmeticShiftRightAssign _ _ _ _ _ _ _ _ _ _ _ _ _ h = absurd (h refl)
no_other k _ _ _ _ _ _ _ _ _ _ _ _ _ _ = refl

pub returns-in-None : goal.returns-in-None
unfolding assignment_operator
returns-in-None c = rw (sym c.in-None.ensures) refl

pub returns-in-Assign : goal.returns-in-Assign
unfolding assignment_operator token same_kind
returns-in-Assign c =
    let here : kind_at c.args.tokens.now c.args.at ≡ Some Assign = sym c.in-Some.ensures ∙ ap (λ (k : Kind). Some k) c.in-Assign.is in
    (rw here refl, λ below. rw here refl, stands_here _ _ _ here)

pub returns-in-LessEqual : goal.returns-in-LessEqual
unfolding assignment_operator token same_kind
returns-in-LessEqual c =
    let here : kind_at c.args.tokens.now c.args.at ≡ Some LessEqual = sym c.in-Some.ensures ∙ ap (λ (k : Kind). Some k) c.in-LessEqual.is in
    (rw here refl, λ below. rw here refl, stands_here _ _ _ here)

pub returns-in-PlusAssign : goal.returns-in-PlusAssign
unfolding assignment_operator token same_kind
returns-in-PlusAssign c =
    let here : kind_at c.args.tokens.now c.args.at ≡ Some PlusAssign = sym c.in-Some.ensures ∙ ap (λ (k : Kind). Some k) c.in-PlusAssign.is in
    (rw here refl, λ below. rw here refl, stands_here _ _ _ here)

pub returns-in-MinusAssign : goal.returns-in-MinusAssign
unfolding assignment_operator token same_kind
returns-in-MinusAssign c =
    let here : kind_at c.args.tokens.now c.args.at ≡ Some MinusAssign = sym c.in-Some.ensures ∙ ap (λ (k : Kind). Some k) c.in-MinusAssign.is in
    (rw here refl, λ below. rw here refl, stands_here _ _ _ here)

pub returns-in-StarAssign : goal.returns-in-StarAssign
unfolding assignment_operator token same_kind
returns-in-StarAssign c =
    let here : kind_at c.args.tokens.now c.args.at ≡ Some StarAssign = sym c.in-Some.ensures ∙ ap (λ (k : Kind). Some k) c.in-StarAssign.is in
    (rw here refl, λ below. rw here refl, stands_here _ _ _ here)

pub returns-in-SlashAssign : goal.returns-in-SlashAssign
unfolding assignment_operator token same_kind
returns-in-SlashAssign c =
    let here : kind_at c.args.tokens.now c.args.at ≡ Some SlashAssign = sym c.in-Some.ensures ∙ ap (λ (k : Kind). Some k) c.in-SlashAssign.is in
    (rw here refl, λ below. rw here refl, stands_here _ _ _ here)

pub returns-in-PercentAssign : goal.returns-in-PercentAssign
unfolding assignment_operator token same_kind
returns-in-PercentAssign c =
    let here : kind_at c.args.tokens.now c.args.at ≡ Some PercentAssign = sym c.in-Some.ensures ∙ ap (λ (k : Kind). Some k) c.in-PercentAssign.is in
    (rw here refl, λ below. rw here refl, stands_here _ _ _ here)

pub returns-in-AmpersandAssign : goal.returns-in-AmpersandAssign
unfolding assignment_operator token same_kind
returns-in-AmpersandAssign c =
    let here : kind_at c.args.tokens.now c.args.at ≡ Some AmpersandAssign = sym c.in-Some.ensures ∙ ap (λ (k : Kind). Some k) c.in-AmpersandAssign.is in
    (rw here refl, λ below. rw here refl, stands_here _ _ _ here)

pub returns-in-PipeAssign : goal.returns-in-PipeAssign
unfolding assignment_operator token same_kind
returns-in-PipeAssign c =
    let here : kind_at c.args.tokens.now c.args.at ≡ Some PipeAssign = sym c.in-Some.ensures ∙ ap (λ (k : Kind). Some k) c.in-PipeAssign.is in
    (rw here refl, λ below. rw here refl, stands_here _ _ _ here)

pub returns-in-CaretAssign : goal.returns-in-CaretAssign
unfolding assignment_operator token same_kind
returns-in-CaretAssign c =
    let here : kind_at c.args.tokens.now c.args.at ≡ Some CaretAssign = sym c.in-Some.ensures ∙ ap (λ (k : Kind). Some k) c.in-CaretAssign.is in
    (rw here refl, λ below. rw here refl, stands_here _ _ _ here)

pub returns-in-LogicalShiftLeftAssign : goal.returns-in-LogicalShiftLeftAssign
unfolding assignment_operator token same_kind
returns-in-LogicalShiftLeftAssign c =
    let here : kind_at c.args.tokens.now c.args.at ≡ Some LogicalShiftLeftAssign = sym c.in-Some.ensures ∙ ap (λ (k : Kind). Some k) c.in-LogicalShiftLeftAssign.is in
    (rw here refl, λ below. rw here refl, stands_here _ _ _ here)

pub returns-in-LogicalShiftRightAssign : goal.returns-in-LogicalShiftRightAssign
unfolding assignment_operator token same_kind
returns-in-LogicalShiftRightAssign c =
    let here : kind_at c.args.tokens.now c.args.at ≡ Some LogicalShiftRightAssign = sym c.in-Some.ensures ∙ ap (λ (k : Kind). Some k) c.in-LogicalShiftRightAssign.is in
    (rw here refl, λ below. rw here refl, stands_here _ _ _ here)

pub returns-in-ArithmeticShiftLeftAssign : goal.returns-in-ArithmeticShiftLeftAssign
unfolding assignment_operator token same_kind
returns-in-ArithmeticShiftLeftAssign c =
    let here : kind_at c.args.tokens.now c.args.at ≡ Some ArithmeticShiftLeftAssign = sym c.in-Some.ensures ∙ ap (λ (k : Kind). Some k) c.in-ArithmeticShiftLeftAssign.is in
    (rw here refl, λ below. rw here refl, stands_here _ _ _ here)

pub returns-in-ArithmeticShiftRightAssign : goal.returns-in-ArithmeticShiftRightAssign
unfolding assignment_operator token same_kind
returns-in-ArithmeticShiftRightAssign c =
    let here : kind_at c.args.tokens.now c.args.at ≡ Some ArithmeticShiftRightAssign = sym c.in-Some.ensures ∙ ap (λ (k : Kind). Some k) c.in-ArithmeticShiftRightAssign.is in
    (rw here refl, λ below. rw here refl, stands_here _ _ _ here)

pub returns-in_default : goal.returns-in_default
returns-in_default c = rw (sym c.in-Some.ensures) (no_other _ c.in_default.not-Assign c.in_default.not-LessEqual c.in_default.not-PlusAssign c.in_default.not-MinusAssign c.in_default.not-StarAssign c.in_default.not-SlashAssign c.in_default.not-PercentAssign c.in_default.not-AmpersandAssign c.in_default.not-PipeAssign c.in_default.not-CaretAssign c.in_default.not-LogicalShiftLeftAssign c.in_default.not-LogicalShiftRightAssign c.in_default.not-ArithmeticShiftLeftAssign c.in_default.not-ArithmeticShiftRightAssign)
