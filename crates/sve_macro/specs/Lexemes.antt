-- The text of a macro as substitution reads it (IEEE 1800-2017, 22.5.1).
use Rattle.std.specs.Prelude.{ℕ, ◌+◌, ◌==◌, Bool, false, not, List, [], ◌∷◌, take, nat_eq, if◌then◌else◌}
use Rattle.std.specs.List.{prefix_len, starts_with}
use Rattle.sve_bytes.specs.Bytes.{continues_identifier}
use Rattle.sve_macro.specs.declared.lexeme.Kind.{Kind}
use Rattle.sve_macro.specs.declared.lexeme.Kind.TheVariants.{Word, Plain, Joint, Quote, EscapedQuote}
use Rattle.sve_macro.specs.Cut.{First, pieces}
use Rattle.sve_macro.specs.Parts.{rest_of_piece}

-- bytes of a macro's text, with what they are
pub record Lexeme : Type 0 where
  pub kind : Kind
  pub text : List ℕ

-- after a backtick, another one, a quote, or a backslash with backtick and quote make a sign
abbrev pub sign_kind : List ℕ → Kind
sign_kind vs =
    if starts_with nat_eq vs (96 ∷ []) then Joint
    else if starts_with nat_eq vs (34 ∷ []) then Quote
    else if starts_with nat_eq vs (92 ∷ 96 ∷ 34 ∷ []) then EscapedQuote
    else Plain

-- how many bytes a sign has after its first backtick
abbrev pub sign_rest : Kind → ℕ
sign_rest Word = 0
sign_rest Plain = 0
sign_rest Joint = 1
sign_rest Quote = 1
sign_rest EscapedQuote = 3

-- letters, digits, `_` and `$` that stand together are a word, a backtick may begin a sign, and all else is plain
abbrev pub first_kind : List ℕ → Kind
first_kind [] = Plain
first_kind (v ∷ vs) = if continues_identifier v then Word else if v == 96 then sign_kind vs else Plain

-- how many bytes a lexeme has after its first one: a word is as long as it can be;
-- between two signs `" no string literal and no escaped identifier begins
abbrev pub lexeme_rest : Bool → List ℕ → ℕ
lexeme_rest between [] = 0
lexeme_rest between (v ∷ vs) =
    if continues_identifier v then prefix_len continues_identifier vs
    else if v == 96 then sign_rest (sign_kind vs)
    else if between then 0
    else rest_of_piece (v ∷ vs)

-- whether what follows stands between two signs `"
abbrev pub between_after : Bool → Kind → Bool
between_after between Word = between
between_after between Plain = between
between_after between Joint = between
between_after between Quote = not between
between_after between EscapedQuote = between

abbrev pub first_lexeme : Bool → List ℕ → First Bool Lexeme
first_lexeme between text =
    record {
      piece = record { kind = first_kind text; text = take (1 + lexeme_rest between text) text };
      more = lexeme_rest between text;
      state = between_after between (first_kind text);
    }

abbrev pub lexemes : List ℕ → List Lexeme
lexemes text = pieces first_lexeme false text
