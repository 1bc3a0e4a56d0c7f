-- The words of the parsers' contracts: what was returned is what reading gives, unless memory ran out (own).
use Rattle.std.specs.Prelude.{ℕ, ◌+◌, ◌-◌, ◌≤◌, ◌<◌, true, false, List, length, Option, Some, None, Result, Ok, Err, ◌≡◌}
use Rattle.sve_token.specs.declared.kind.Kind.{Kind}
use Rattle.sve_token.specs.declared.token.Token.{Token}
use Rattle.sve_grammar.specs.declared.symbol.Symbol.{Symbol}
use Rattle.sve_grammar.specs.declared.stop.Stop.{Stop}
use Rattle.sve_grammar.specs.declared.stop.Stop.TheVariants.{At, NoMemory}
use Rattle.sve_grammar.specs.Token.{kind_at, has_kind}
use Rattle.sve_grammar.specs.Rule.{Rule, starts}
use Rattle.sve_grammar.specs.Grammar.{rule}
use Rattle.sve_grammar.specs.Reading.{Tree, leaf, Answer, token, reads, symbol, at_depth}

-- reading stops there
abbrev pub Fails : Stop → Answer → Type 0
Fails (At i deep) read = read ≡ Err (record { index = i; deep = deep })
Fails NoMemory read = Unit {0}

-- the value is that of reading, seen by a view
abbrev pub Gives : {X : Type 0} → (X → Tree × ℕ) → Result X Stop → Answer → Type 0
Gives view (Ok x) read = read ≡ Ok (view x)
Gives view (Err e) read = Fails e read

-- a token of the kind was taken, or the next is of another kind
abbrev pub Accepts : List Token → Kind → ℕ → Option ℕ → Type 0
Accepts ts k i None = has_kind (kind_at ts i) k ≡ false
Accepts ts k i (Some next) = (has_kind (kind_at ts i) k ≡ true) × (token ts k i ≡ Ok (leaf i, next)) × (next ≡ i + 1) × (next ≤ length ts)

-- the symbol gives way to its rule, one deeper
abbrev pub Enters : List Token → ℕ → Symbol → ℕ → Result ℕ Stop → Type 0
Enters ts d s i (Ok deeper) = (symbol ts (512 - d) s i ≡ at_depth ts deeper (rule s) i) × (deeper ≡ d + 1) × (deeper ≤ 512)
Enters ts d s i (Err e) = Fails e (symbol ts (512 - d) s i)

-- the next token is one of the rule's, which all are single tokens, or none of them
abbrev pub Finds : {X : Type 0} → List Token → Rule → (X → ℕ → Tree) → ℕ → Option X → Type 0
Finds ts r view i None = starts r (kind_at ts i) ≡ false
Finds ts r view i (Some x) = (starts r (kind_at ts i) ≡ true) × ((below : Symbol → ℕ → Answer) → reads ts below r i ≡ Ok (view x i, i + 1)) × (i < length ts)
