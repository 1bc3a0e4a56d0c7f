use Rattle.std.proofs.Common.{◌≡◌, Some, refl, ap, ◌∙◌}
use Rattle.sve_token.specs.declared.kind.Kind.TheVariants.{Keyword}
use Rattle.sve_token.specs.declared.keywords.Keyword.{Keyword as Word}
use Rattle.sve_token.specs.declared.keywords.Keyword.TheVariants.{KwBit, KwLogic, KwReg}
use Rattle.sve_grammar.specs.Token.{kind_at, same_kind}
use Rattle.sve_grammar.specs.Expressions.{integer_vector_type}
use Rattle.sve_grammar.specs.Reading.{token}
use Rattle.sve_grammar.proofs.Unlike.{unlike_word}
use Rattle.sve_parse_word.proofs.types.vector_keyword.Goals as goal

pub returns-in-None : goal.returns-in-None
unfolding integer_vector_type
returns-in-None c = rw (c.in-None.ensures KwBit, c.in-None.ensures KwLogic, c.in-None.ensures KwReg) refl

pub returns-in-KwBit : goal.returns-in-KwBit
unfolding integer_vector_type token same_kind
returns-in-KwBit c =
    let here : kind_at c.args.tokens.now c.args.at ≡ Some (Keyword KwBit) = c.in-Some.ensures.0 ∙ ap (λ (w : Word). Some (Keyword w)) c.in-KwBit.is in
    (rw here refl, λ below. rw here refl, c.in-Some.ensures.1)

pub returns-in-KwLogic : goal.returns-in-KwLogic
unfolding integer_vector_type token same_kind
returns-in-KwLogic c =
    let here : kind_at c.args.tokens.now c.args.at ≡ Some (Keyword KwLogic) = c.in-Some.ensures.0 ∙ ap (λ (w : Word). Some (Keyword w)) c.in-KwLogic.is in
    (rw here refl, λ below. rw here refl, c.in-Some.ensures.1)

pub returns-in-KwReg : goal.returns-in-KwReg
unfolding integer_vector_type token same_kind
returns-in-KwReg c =
    let here : kind_at c.args.tokens.now c.args.at ≡ Some (Keyword KwReg) = c.in-Some.ensures.0 ∙ ap (λ (w : Word). Some (Keyword w)) c.in-KwReg.is in
    (rw here refl, λ below. rw here refl, c.in-Some.ensures.1)

pub returns-in_default : goal.returns-in_default
unfolding integer_vector_type
returns-in_default c = rw (c.in-Some.ensures.0, unlike_word c.in-Some.word KwBit c.in_default.not-KwBit, unlike_word c.in-Some.word KwLogic c.in_default.not-KwLogic, unlike_word c.in-Some.word KwReg c.in_default.not-KwReg) refl
