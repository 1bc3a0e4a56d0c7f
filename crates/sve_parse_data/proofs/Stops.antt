-- Where no net type stands, the rule stops.
use Rattle.std.proofs.Common.{◌≡◌, ℕ, false, List}
use Rattle.sve_token.specs.declared.token.Token.{Token}
use Rattle.sve_grammar.specs.Token.{kind_at}
use Rattle.sve_grammar.specs.Rule.{starts}
use Rattle.sve_grammar.specs.Reading.{halt, reads, symbol}
use Rattle.sve_grammar.specs.Types.{net_type}
use Rattle.sve_grammar.proofs.Idle.{stops_here}
use Rattle.sve_grammar.proofs.StartsOfTypes.{net_type_full}

pub net_type_stops : (ts : List Token) (n i : ℕ) → starts net_type (kind_at ts i) ≡ false → reads ts (symbol ts n) net_type i ≡ halt i false
net_type_stops ts n i s = stops_here ts n net_type i s net_type_full
