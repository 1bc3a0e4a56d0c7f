use Rattle.std.proofs.Common.{◌≡◌, Some, refl, ap, ◌∙◌}
use Rattle.sve_token.specs.declared.kind.Kind.TheVariants.{Keyword}
use Rattle.sve_token.specs.declared.keywords.Keyword.{Keyword as Word}
use Rattle.sve_token.specs.declared.keywords.Keyword.TheVariants.{KwByte, KwShortint, KwInt, KwLongint, KwInteger, KwTime}
use Rattle.sve_grammar.specs.Token.{kind_at, same_kind}
use Rattle.sve_grammar.specs.Expressions.{integer_atom_type}
use Rattle.sve_grammar.specs.Reading.{token}
use Rattle.sve_grammar.proofs.Unlike.{unlike_word}
use Rattle.sve_parse_word.proofs.types.atom_keyword.Goals as goal

pub returns-in-None : goal.returns-in-None
unfolding integer_atom_type
returns-in-None c = rw (c.in-None.ensures KwByte, c.in-None.ensures KwShortint, c.in-None.ensures KwInt, c.in-None.ensures KwLongint, c.in-None.ensures KwInteger, c.in-None.ensures KwTime) refl

pub returns-in-KwByte : goal.returns-in-KwByte
unfolding integer_atom_type token same_kind
returns-in-KwByte c =
    let here : kind_at c.args.tokens.now c.args.at ≡ Some (Keyword KwByte) = c.in-Some.ensures.0 ∙ ap (λ (w : Word). Some (Keyword w)) c.in-KwByte.is in
    (rw here refl, λ below. rw here refl, c.in-Some.ensures.1)

pub returns-in-KwShortint : goal.returns-in-KwShortint
unfolding integer_atom_type token same_kind
returns-in-KwShortint c =
    let here : kind_at c.args.tokens.now c.args.at ≡ Some (Keyword KwShortint) = c.in-Some.ensures.0 ∙ ap (λ (w : Word). Some (Keyword w)) c.in-KwShortint.is in
    (rw here refl, λ below. rw here refl, c.in-Some.ensures.1)

pub returns-in-KwInt : goal.returns-in-KwInt
unfolding integer_atom_type token same_kind
returns-in-KwInt c =
    let here : kind_at c.args.tokens.now c.args.at ≡ Some (Keyword KwInt) = c.in-Some.ensures.0 ∙ ap (λ (w : Word). Some (Keyword w)) c.in-KwInt.is in
    (rw here refl, λ below. rw here refl, c.in-Some.ensures.1)

pub returns-in-KwLongint : goal.returns-in-KwLongint
unfolding integer_atom_type token same_kind
returns-in-KwLongint c =
    let here : kind_at c.args.tokens.now c.args.at ≡ Some (Keyword KwLongint) = c.in-Some.ensures.0 ∙ ap (λ (w : Word). Some (Keyword w)) c.in-KwLongint.is in
    (rw here refl, λ below. rw here refl, c.in-Some.ensures.1)

pub returns-in-KwInteger : goal.returns-in-KwInteger
unfolding integer_atom_type token same_kind
returns-in-KwInteger c =
    let here : kind_at c.args.tokens.now c.args.at ≡ Some (Keyword KwInteger) = c.in-Some.ensures.0 ∙ ap (λ (w : Word). Some (Keyword w)) c.in-KwInteger.is in
    (rw here refl, λ below. rw here refl, c.in-Some.ensures.1)

pub returns-in-KwTime : goal.returns-in-KwTime
unfolding integer_atom_type token same_kind
returns-in-KwTime c =
    let here : kind_at c.args.tokens.now c.args.at ≡ Some (Keyword KwTime) = c.in-Some.ensures.0 ∙ ap (λ (w : Word). Some (Keyword w)) c.in-KwTime.is in
    (rw here refl, λ below. rw here refl, c.in-Some.ensures.1)

pub returns-in_default : goal.returns-in_default
unfolding integer_atom_type
returns-in_default c = rw (c.in-Some.ensures.0, unlike_word c.in-Some.word KwByte c.in_default.not-KwByte, unlike_word c.in-Some.word KwShortint c.in_default.not-KwShortint, unlike_word c.in-Some.word KwInt c.in_default.not-KwInt, unlike_word c.in-Some.word KwLongint c.in_default.not-KwLongint, unlike_word c.in-Some.word KwInteger c.in_default.not-KwInteger, unlike_word c.in-Some.word KwTime c.in_default.not-KwTime) refl
