-- What formal arguments begin with, in the parts that the code asks for.
use Rattle.std.proofs.Common.{◌≡◌, Bool, true, false, [], ◌∷◌, Option, refl, ◌∙◌ as ◌∘◌}
use Rattle.std.specs.Prelude.{◌||◌}
use Rattle.sve_token.specs.declared.kind.Kind.{Kind}
use Rattle.sve_token.specs.declared.kind.Kind.TheVariants.{Keyword, LeftBracket, Identifier}
use Rattle.sve_token.specs.declared.keywords.Keyword.TheVariants.{KwInput, KwOutput, KwInout, KwRef, KwVar, KwSigned, KwUnsigned}
use Rattle.sve_grammar.specs.declared.symbol.Symbol.TheVariants.{DataType}
use Rattle.sve_grammar.specs.Token.{has_kind}
use Rattle.sve_grammar.specs.Rule.{starts, opens, is_among}
use Rattle.sve_grammar.specs.Statements.{formal, formal_row}
use Rattle.sve_grammar.proofs.Begins.{or_none}
use Rattle.sve_grammar.proofs.StartsOfStatements.{formal_starts, formal_full}

-- five of which one holds, before another, as a search
one_of_five : (a b c d e x : Bool) → (a || (b || (c || (d || (e || x))))) ≡ ((a || (b || (c || (d || (e || false))))) || x)
one_of_five true b c d e x = refl
one_of_five false true c d e x = refl
one_of_five false false true d e x = refl
one_of_five false false false true e x = refl
one_of_five false false false false true x = refl
one_of_five false false false false false x = refl

-- a formal argument: how it is passed, a type that begins with a keyword, or what else stands in front of a name
pub formal_begins : (k : Option Kind) → starts formal k
    ≡ (is_among (Keyword KwInput ∷ Keyword KwOutput ∷ Keyword KwInout ∷ Keyword KwRef ∷ Keyword KwVar ∷ []) k
    || (opens DataType k || is_among (Keyword KwSigned ∷ Keyword KwUnsigned ∷ LeftBracket ∷ Identifier ∷ []) k))
formal_begins k =
    rw (or_none (has_kind k Identifier)) (formal_starts k ∘ one_of_five (has_kind k (Keyword KwInput)) (has_kind k (Keyword KwOutput)) (has_kind k (Keyword KwInout)) (has_kind k (Keyword KwRef)) (has_kind k (Keyword KwVar)) (opens DataType k || (has_kind k (Keyword KwSigned) || (has_kind k (Keyword KwUnsigned) || (has_kind k LeftBracket || has_kind k Identifier)))))

pub formal_row_begins : (k : Option Kind) → starts formal_row k ≡ starts formal k
unfolding formal_row
formal_row_begins k = rw formal_full (or_none (starts formal k))
