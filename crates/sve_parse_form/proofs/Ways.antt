-- Where a rule stops, by what begins here.
use Rattle.std.proofs.Common.{◌≡◌, ℕ, false, List, refl}
use Rattle.sve_token.specs.declared.kind.Kind.TheVariants.{Semicolon}
use Rattle.sve_token.specs.declared.token.Token.{Token}
use Rattle.sve_grammar.specs.Token.{kind_at}
use Rattle.sve_grammar.specs.Rule.{tok, ◌∙◌, starts}
use Rattle.sve_grammar.specs.Declarations.{lifetime}
use Rattle.sve_grammar.specs.Statements.{local_declaration}
use Rattle.sve_grammar.specs.Reading.{halt, reads, symbol}
use Rattle.sve_grammar.proofs.Idle.{stops_here}
use Rattle.sve_grammar.proofs.StartsOfStatements.{lifetime_full}

pub local_stops : (ts : List Token) (n i : ℕ) → starts lifetime (kind_at ts i) ≡ false → reads ts (symbol ts n) (lifetime ∙ local_declaration ∙ tok Semicolon) i ≡ halt i false
local_stops ts n i s = stops_here ts n (lifetime ∙ local_declaration ∙ tok Semicolon) i (rw (s, lifetime_full) refl) (rw lifetime_full refl)
