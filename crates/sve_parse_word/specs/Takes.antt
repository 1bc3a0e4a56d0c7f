-- What is always read: a rule that never stops (own).
use Rattle.std.specs.Prelude.{ℕ, List, Ok, ◌≡◌}
use Rattle.sve_token.specs.declared.token.Token.{Token}
use Rattle.sve_grammar.specs.declared.symbol.Symbol.{Symbol}
use Rattle.sve_grammar.specs.Rule.{Rule}
use Rattle.sve_grammar.specs.Reading.{Tree, Answer, reads}

-- the value is what the rule reads at this place, whatever the symbols read: no symbol is in the rule
abbrev pub Takes : {X : Type 0} → List Token → Rule → (X → Tree × ℕ) → ℕ → X → Type 0
Takes ts r view i x = (below : Symbol → ℕ → Answer) → reads ts below r i ≡ Ok (view x)
