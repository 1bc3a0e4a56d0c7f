use Rattle.std.proofs.Common.{◌≡◌, Some, refl, ap, ◌∙◌}
use Rattle.sve_token.specs.declared.kind.Kind.TheVariants.{Keyword}
use Rattle.sve_token.specs.declared.keywords.Keyword.{Keyword as Word}
use Rattle.sve_token.specs.declared.keywords.Keyword.TheVariants.{KwWire, KwTri, KwUwire, KwWand, KwWor, KwTriand, KwTrior, KwTri0, KwTri1, KwSupply0, KwSupply1}
use Rattle.sve_grammar.specs.Token.{kind_at, same_kind}
use Rattle.sve_grammar.specs.Types.{net_type}
use Rattle.sve_grammar.specs.Reading.{token}
use Rattle.sve_grammar.proofs.Unlike.{unlike_word}
use Rattle.sve_parse_word.proofs.types.net.Goals as goal

pub returns-in-None : goal.returns-in-None
unfolding net_type
returns-in-None c = rw (c.in-None.ensures KwWire, c.in-None.ensures KwTri, c.in-None.ensures KwUwire, c.in-None.ensures KwWand, c.in-None.ensures KwWor, c.in-None.ensures KwTriand, c.in-None.ensures KwTrior, c.in-None.ensures KwTri0, c.in-None.ensures KwTri1, c.in-None.ensures KwSupply0, c.in-None.ensures KwSupply1) refl

pub returns-in-KwWire : goal.returns-in-KwWire
unfolding net_type token same_kind
returns-in-KwWire c =
    let here : kind_at c.args.tokens.now c.args.at ≡ Some (Keyword KwWire) = c.in-Some.ensures.0 ∙ ap (λ (w : Word). Some (Keyword w)) c.in-KwWire.is in
    (rw here refl, λ below. rw here refl, c.in-Some.ensures.1)

pub returns-in-KwTri : goal.returns-in-KwTri
unfolding net_type token same_kind
returns-in-KwTri c =
    let here : kind_at c.args.tokens.now c.args.at ≡ Some (Keyword KwTri) = c.in-Some.ensures.0 ∙ ap (λ (w : Word). Some (Keyword w)) c.in-KwTri.is in
    (rw here refl, λ below. rw here refl, c.in-Some.ensures.1)

pub returns-in-KwUwire : goal.returns-in-KwUwire
unfolding net_type token same_kind
returns-in-KwUwire c =
    let here : kind_at c.args.tokens.now c.args.at ≡ Some (Keyword KwUwire) = c.in-Some.ensures.0 ∙ ap (λ (w : Word). Some (Keyword w)) c.in-KwUwire.is in
    (rw here refl, λ below. rw here refl, c.in-Some.ensures.1)

pub returns-in-KwWand : goal.returns-in-KwWand
unfolding net_type token same_kind
returns-in-KwWand c =
    let here : kind_at c.args.tokens.now c.args.at ≡ Some (Keyword KwWand) = c.in-Some.ensures.0 ∙ ap (λ (w : Word). Some (Keyword w)) c.in-KwWand.is in
    (rw here refl, λ below. rw here refl, c.in-Some.ensures.1)

pub returns-in-KwWor : goal.returns-in-KwWor
unfolding net_type token same_kind
returns-in-KwWor c =
    let here : kind_at c.args.tokens.now c.args.at ≡ Some (Keyword KwWor) = c.in-Some.ensures.0 ∙ ap (λ (w : Word). Some (Keyword w)) c.in-KwWor.is in
    (rw here refl, λ below. rw here refl, c.in-Some.ensures.1)

pub returns-in-KwTriand : goal.returns-in-KwTriand
unfolding net_type token same_kind
returns-in-KwTriand c =
    let here : kind_at c.args.tokens.now c.args.at ≡ Some (Keyword KwTriand) = c.in-Some.ensures.0 ∙ ap (λ (w : Word). Some (Keyword w)) c.in-KwTriand.is in
    (rw here refl, λ below. rw here refl, c.in-Some.ensures.1)

pub returns-in-KwTrior : goal.returns-in-KwTrior
unfolding net_type token same_kind
returns-in-KwTrior c =
    let here : kind_at c.args.tokens.now c.args.at ≡ Some (Keyword KwTrior) = c.in-Some.ensures.0 ∙ ap (λ (w : Word). Some (Keyword w)) c.in-KwTrior.is in
    (rw here refl, λ below. rw here refl, c.in-Some.ensures.1)

pub returns-in-KwTri0 : goal.returns-in-KwTri0
unfolding net_type token same_kind
returns-in-KwTri0 c =
    let here : kind_at c.args.tokens.now c.args.at ≡ Some (Keyword KwTri0) = c.in-Some.ensures.0 ∙ ap (λ (w : Word). Some (Keyword w)) c.in-KwTri0.is in
    (rw here refl, λ below. rw here refl, c.in-Some.ensures.1)

pub returns-in-KwTri1 : goal.returns-in-KwTri1
unfolding net_type token same_kind
returns-in-KwTri1 c =
    let here : kind_at c.args.tokens.now c.args.at ≡ Some (Keyword KwTri1) = c.in-Some.ensures.0 ∙ ap (λ (w : Word). Some (Keyword w)) c.in-KwTri1.is in
    (rw here refl, λ below. rw here refl, c.in-Some.ensures.1)

pub returns-in-KwSupply0 : goal.returns-in-KwSupply0
unfolding net_type token same_kind
returns-in-KwSupply0 c =
    let here : kind_at c.args.tokens.now c.args.at ≡ Some (Keyword KwSupply0) = c.in-Some.ensures.0 ∙ ap (λ (w : Word). Some (Keyword w)) c.in-KwSupply0.is in
    (rw here refl, λ below. rw here refl, c.in-Some.ensures.1)

pub returns-in-KwSupply1 : goal.returns-in-KwSupply1
unfolding net_type token same_kind
returns-in-KwSupply1 c =
    let here : kind_at c.args.tokens.now c.args.at ≡ Some (Keyword KwSupply1) = c.in-Some.ensures.0 ∙ ap (λ (w : Word). Some (Keyword w)) c.in-KwSupply1.is in
    (rw here refl, λ below. rw here refl, c.in-Some.ensures.1)

pub returns-in_default : goal.returns-in_default
unfolding net_type
returns-in_default c = rw (c.in-Some.ensures.0, unlike_word c.in-Some.word KwWire c.in_default.not-KwWire, unlike_word c.in-Some.word KwTri c.in_default.not-KwTri, unlike_word c.in-Some.word KwUwire c.in_default.not-KwUwire, unlike_word c.in-Some.word KwWand c.in_default.not-KwWand, unlike_word c.in-Some.word KwWor c.in_default.not-KwWor, unlike_word c.in-Some.word KwTriand c.in_default.not-KwTriand, unlike_word c.in-Some.word KwTrior c.in_default.not-KwTrior, unlike_word c.in-Some.word KwTri0 c.in_default.not-KwTri0, unlike_word c.in-Some.word KwTri1 c.in_default.not-KwTri1, unlike_word c.in-Some.word KwSupply0 c.in_default.not-KwSupply0, unlike_word c.in-Some.word KwSupply1 c.in_default.not-KwSupply1) refl
