-- A token that stands at a place is one of the list.
use Rattle.std.proofs.Common.{◌≡◌, ℕ, zero, suc, ◌<◌, List, [], ◌∷◌, length, Some, arith}
use Rattle.sve_token.specs.declared.kind.Kind.{Kind}
use Rattle.sve_token.specs.declared.token.Token.{Token}
use Rattle.sve_grammar.specs.Token.{kind_at}

pub stands_here : (ts : List Token) (n : ℕ) (kind : Kind) → kind_at ts n ≡ Some kind → n < length ts
stands_here [] zero kind h = cc
stands_here (t ∷ ts) zero kind h = omega arith
stands_here [] (suc n) kind h = cc
stands_here (t ∷ ts) (suc n) kind h = let k = stands_here ts n kind h in omega arith
