-- Where no operator of a set stands, the rule of the set stops.
use Rattle.std.proofs.Common.{◌≡◌, ℕ, false, List}
use Rattle.sve_token.specs.declared.token.Token.{Token}
use Rattle.sve_grammar.specs.Token.{kind_at}
use Rattle.sve_grammar.specs.Rule.{starts}
use Rattle.sve_grammar.specs.Reading.{halt, reads, symbol}
use Rattle.sve_grammar.specs.Statements.{assignment_operator, increment_operator}
use Rattle.sve_grammar.proofs.Idle.{stops_here}
use Rattle.sve_grammar.proofs.StartsOfStatements.{assignment_operator_full, increment_operator_full}

pub assignment_operator_stops : (ts : List Token) (n i : ℕ) → starts assignment_operator (kind_at ts i) ≡ false → reads ts (symbol ts n) assignment_operator i ≡ halt i false
assignment_operator_stops ts n i s = stops_here ts n assignment_operator i s assignment_operator_full

pub increment_operator_stops : (ts : List Token) (n i : ℕ) → starts increment_operator (kind_at ts i) ≡ false → reads ts (symbol ts n) increment_operator i ≡ halt i false
increment_operator_stops ts n i s = stops_here ts n increment_operator i s increment_operator_full
