-- What ports and parameters begin with, in the parts that the code asks for.
use Rattle.std.proofs.Common.{◌≡◌, Bool, true, false, [], ◌∷◌, Option, refl, sym as flip, ◌∙◌ as ◌∘◌}
use Rattle.std.specs.Prelude.{◌||◌}
use Rattle.sve_token.specs.declared.kind.Kind.{Kind}
use Rattle.sve_token.specs.declared.kind.Kind.TheVariants.{Keyword, LeftBracket, Identifier}
use Rattle.sve_token.specs.declared.keywords.Keyword.TheVariants.{KwSigned, KwUnsigned, KwVar}
use Rattle.sve_grammar.specs.declared.symbol.Symbol.TheVariants.{DataType}
use Rattle.sve_grammar.specs.Token.{has_kind}
use Rattle.sve_grammar.specs.Rule.{starts, opens, is_among}
use Rattle.sve_grammar.specs.Types.{direction, declared_type, net_type, port_kind, port_type, port, port_row, parameter_keyword, parameter_port, parameter_port_row}
use Rattle.sve_grammar.proofs.Begins.{or_none}
use Rattle.sve_grammar.proofs.StartsOfTypes.{direction_full, declared_type_starts, declared_type_full, port_kind_full, port_type_starts, port_full, parameter_keyword_full, parameter_port_full}

-- a name with its type: a type that begins with a keyword, or one of four kinds
pub declared_type_begins : (k : Option Kind) → starts declared_type k
    ≡ (opens DataType k || is_among (Keyword KwSigned ∷ Keyword KwUnsigned ∷ LeftBracket ∷ Identifier ∷ []) k)
declared_type_begins k = rw (or_none (has_kind k Identifier)) (declared_type_starts k)

pub port_kind_begins : (k : Option Kind) → starts port_kind k ≡ (has_kind k (Keyword KwVar) || starts net_type k)
unfolding port_kind
port_kind_begins k = refl

two_left_out : (a b c d : Bool) → d ≡ c → ((a || false) || ((b || false) || d)) ≡ (a || (b || c))
two_left_out true b c d e = refl
two_left_out false true c d e = refl
two_left_out false false c d e = e

-- a port: its direction, its kind, or what a name with its type begins with
pub port_begins : (k : Option Kind) → starts port k ≡ (starts direction k || (starts port_kind k || starts declared_type k))
unfolding port
port_begins k =
    rw (direction_full, port_kind_full) (two_left_out (starts direction k) (starts port_kind k) (starts declared_type k) (starts port_type k) (port_type_starts k ∘ flip (declared_type_starts k)))

pub port_row_begins : (k : Option Kind) → starts port_row k ≡ starts port k
unfolding port_row
port_row_begins k = rw port_full (or_none (starts port k))

one_left_out : (a b : Bool) → ((a || false) || (b || false)) ≡ (a || b)
one_left_out true b = refl
one_left_out false b = or_none b

-- a parameter of a header: its keyword, or what a name with its type begins with
pub parameter_port_begins : (k : Option Kind) → starts parameter_port k ≡ (starts parameter_keyword k || starts declared_type k)
unfolding parameter_port
parameter_port_begins k = rw (parameter_keyword_full, declared_type_full) (one_left_out (starts parameter_keyword k) (starts declared_type k))

pub parameter_port_row_begins : (k : Option Kind) → starts parameter_port_row k ≡ starts parameter_port k
unfolding parameter_port_row
parameter_port_row_begins k = rw parameter_port_full (or_none (starts parameter_port k))
