-- Where operations go on behind an operand, level by level (IEEE 1800-2017, Table 11-2, and own).
use Rattle.std.specs.Prelude.{ℕ, ◌-◌, ◌<◌, ◌≤◌, Bool, true, false, List, Option, Some, None, ◌≡◌}
use Rattle.sve_token.specs.declared.kind.Kind.{Kind}
use Rattle.sve_token.specs.declared.token.Token.{Token}
use Rattle.sve_grammar.specs.Token.{kind_at}
use Rattle.sve_grammar.specs.Rule.{starts}
use Rattle.sve_grammar.specs.Expressions.{operations, operation}

-- an operation of this level can begin with this kind
abbrev pub begins_level : Option Kind → ℕ → Bool
begins_level k level = starts (operation level (operations (level - 1))) k

-- an operation of this level goes on here
abbrev pub goes_on : List Token → ℕ → ℕ → Bool
goes_on ts at level = begins_level (kind_at ts at) level

-- the tightest level above one, and up to another, at which an operation goes on here; or there is none
abbrev pub IsNextLevel : List Token → ℕ → ℕ → ℕ → Option ℕ → Type 0
IsNextLevel ts at done level None = (n : ℕ) → done < n → n ≤ level → goes_on ts at n ≡ false
IsNextLevel ts at done level (Some next) = (done < next) × (next ≤ level) × (goes_on ts at next ≡ true) × ((n : ℕ) → done < n → n < next → goes_on ts at n ≡ false)
