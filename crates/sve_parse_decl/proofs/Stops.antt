-- Where a rule of single tokens does not begin, it stops.
use Rattle.std.proofs.Common.{◌≡◌, ℕ, false, List}
use Rattle.sve_token.specs.declared.token.Token.{Token}
use Rattle.sve_grammar.specs.Token.{kind_at}
use Rattle.sve_grammar.specs.Rule.{starts}
use Rattle.sve_grammar.specs.Reading.{halt, reads, symbol}
use Rattle.sve_grammar.specs.Types.{direction, parameter_keyword}
use Rattle.sve_grammar.proofs.Idle.{stops_here}
use Rattle.sve_grammar.proofs.StartsOfTypes.{direction_full, parameter_keyword_full}

pub direction_stops : (ts : List Token) (n i : ℕ) → starts direction (kind_at ts i) ≡ false → reads ts (symbol ts n) direction i ≡ halt i false
direction_stops ts n i s = stops_here ts n direction i s direction_full

pub parameter_keyword_stops : (ts : List Token) (n i : ℕ) → starts parameter_keyword (kind_at ts i) ≡ false → reads ts (symbol ts n) parameter_keyword i ≡ halt i false
parameter_keyword_stops ts n i s = stops_here ts n parameter_keyword i s parameter_keyword_full
