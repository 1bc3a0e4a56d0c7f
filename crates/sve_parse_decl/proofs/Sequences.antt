-- Where the last of three parts stops.
use Rattle.std.proofs.Common.{◌≡◌, ℕ, List, Ok, refl}
use Rattle.sve_token.specs.declared.token.Token.{Token}
use Rattle.sve_grammar.specs.declared.stop.Stop.{Stop}
use Rattle.sve_grammar.specs.declared.stop.Stop.TheVariants.{At, NoMemory}
use Rattle.sve_grammar.specs.Rule.{Rule, ◌∙◌}
use Rattle.sve_grammar.specs.Reading.{Tree, reads, symbol}
use Rattle.sve_grammar.specs.Gives.{Fails}

-- two parts are read, and the third stops: the whole stops there
pub third_fails : (ts : List Token) (n : ℕ) (a b c : Rule) (i j k : ℕ) (t u : Tree) (e : Stop) → reads ts (symbol ts n) a i ≡ Ok (t, j) → reads ts (symbol ts n) b j ≡ Ok (u, k)
    → Fails e (reads ts (symbol ts n) c k) → Fails e (reads ts (symbol ts n) (a ∙ b ∙ c) i)
third_fails ts n a b c i j k t u NoMemory r s f = tt
third_fails ts n a b c i j k t u (At index deep) r s f = rw (r, s, f) refl
