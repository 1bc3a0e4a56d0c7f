-- Where a keyword of procedures does not begin, reading stops.
use Rattle.std.proofs.Common.{◌≡◌, ℕ, false, List}
use Rattle.sve_token.specs.declared.token.Token.{Token}
use Rattle.sve_grammar.specs.Token.{kind_at}
use Rattle.sve_grammar.specs.Rule.{starts}
use Rattle.sve_grammar.specs.Reading.{halt, reads, symbol}
use Rattle.sve_grammar.specs.Items.{clocked_keyword, plain_keyword}
use Rattle.sve_grammar.proofs.Idle.{stops_here}
use Rattle.sve_grammar.proofs.StartsOfItems.{clocked_keyword_full, plain_keyword_full}

pub clocked_keyword_stops : (ts : List Token) (n i : ℕ) → starts clocked_keyword (kind_at ts i) ≡ false → reads ts (symbol ts n) clocked_keyword i ≡ halt i false
clocked_keyword_stops ts n i s = stops_here ts n clocked_keyword i s clocked_keyword_full

pub plain_keyword_stops : (ts : List Token) (n i : ℕ) → starts plain_keyword (kind_at ts i) ≡ false → reads ts (symbol ts n) plain_keyword i ≡ halt i false
plain_keyword_stops ts n i s = stops_here ts n plain_keyword i s plain_keyword_full
