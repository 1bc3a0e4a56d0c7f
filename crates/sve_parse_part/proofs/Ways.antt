-- Where a rule stops, by what begins here.
use Rattle.std.proofs.Common.{◌≡◌, ℕ, false, List}
use Rattle.sve_token.specs.declared.token.Token.{Token}
use Rattle.sve_grammar.specs.Token.{kind_at}
use Rattle.sve_grammar.specs.Rule.{starts}
use Rattle.sve_grammar.specs.Statements.{case_keyword, loop_keyword}
use Rattle.sve_grammar.specs.Reading.{halt, reads, symbol}
use Rattle.sve_grammar.proofs.Idle.{stops_here}
use Rattle.sve_grammar.proofs.StartsOfStatements.{case_keyword_full, loop_keyword_full}

pub case_keyword_stops : (ts : List Token) (n i : ℕ) → starts case_keyword (kind_at ts i) ≡ false → reads ts (symbol ts n) case_keyword i ≡ halt i false
case_keyword_stops ts n i s = stops_here ts n case_keyword i s case_keyword_full

pub loop_keyword_stops : (ts : List Token) (n i : ℕ) → starts loop_keyword (kind_at ts i) ≡ false → reads ts (symbol ts n) loop_keyword i ≡ halt i false
loop_keyword_stops ts n i s = stops_here ts n loop_keyword i s loop_keyword_full
