-- Kinds of tokens with which no operation goes on behind an operand.
use Rattle.std.proofs.Common.{◌≡◌, ℕ, zero, suc, ◌-◌, ◌≤◌, eqb, Bool, false, Some, refl, ◌∙◌ as ◌∘◌, arith}
use Rattle.std.specs.Prelude.{◌||◌, ◌&&◌}
use Rattle.sve_token.specs.declared.kind.Kind.{Kind}
use Rattle.sve_token.specs.declared.kind.Kind.TheVariants.{Keyword, Semicolon, Comma, RightParen, RightBracket, RightBrace, Colon}
use Rattle.sve_token.specs.declared.keywords.Keyword.TheVariants.{KwInside}
use Rattle.sve_grammar.specs.Token.{same_kind, has_kind}
use Rattle.sve_grammar.specs.Rule.{starts}
use Rattle.sve_grammar.specs.Expressions.{operators, operations}
use Rattle.sve_grammar.proofs.Levels.{operation_begins}
use Rattle.sve_parse_expr.specs.Levels.{begins_level}

-- what holds of each of the eleven levels
each : (P : ℕ → Type 0) → P 1 → P 2 → P 3 → P 4 → P 5 → P 6 → P 7 → P 8 → P 9 → P 10 → P 11 → (n : ℕ) → 1 ≤ n → n ≤ 11 → P n
each P a b c d e f g h i j k zero lo hi = absurd (omega arith)
each P a b c d e f g h i j k (suc zero) lo hi = a
each P a b c d e f g h i j k (suc (suc zero)) lo hi = b
each P a b c d e f g h i j k (suc (suc (suc zero))) lo hi = c
each P a b c d e f g h i j k (suc (suc (suc (suc zero)))) lo hi = d
each P a b c d e f g h i j k (suc (suc (suc (suc (suc zero))))) lo hi = e
each P a b c d e f g h i j k (suc (suc (suc (suc (suc (suc zero)))))) lo hi = f
each P a b c d e f g h i j k (suc (suc (suc (suc (suc (suc (suc zero))))))) lo hi = g
each P a b c d e f g h i j k (suc (suc (suc (suc (suc (suc (suc (suc zero)))))))) lo hi = h
each P a b c d e f g h i j k (suc (suc (suc (suc (suc (suc (suc (suc (suc zero))))))))) lo hi = i
each P a b c d e f g h i j k (suc (suc (suc (suc (suc (suc (suc (suc (suc (suc zero)))))))))) lo hi = j
each P a b c d e f g h i j k (suc (suc (suc (suc (suc (suc (suc (suc (suc (suc (suc zero))))))))))) lo hi = k
each P a b c d e f g h i j k (suc (suc (suc (suc (suc (suc (suc (suc (suc (suc (suc (suc n)))))))))))) lo hi = absurd (omega arith)

-- no operation begins with the kind
abbrev pub IsIdle : Kind → Type 0
IsIdle k = (level : ℕ) → 1 ≤ level → level ≤ 11 → begins_level (Some k) level ≡ false

-- by the operators of each level, and by `inside`
abbrev begins : Kind → ℕ → Bool
begins k n = starts (operators n) (Some k) || (eqb n 5 && has_kind (Some k) (Keyword KwInside))

pub idle_Semicolon : IsIdle Semicolon
unfolding operators same_kind
idle_Semicolon level lo hi = operation_begins level (operations (level - 1)) (Some Semicolon) ∘ each (λ n. begins Semicolon n ≡ false) refl refl refl refl refl refl refl refl refl refl refl level lo hi

pub idle_Comma : IsIdle Comma
unfolding operators same_kind
idle_Comma level lo hi = operation_begins level (operations (level - 1)) (Some Comma) ∘ each (λ n. begins Comma n ≡ false) refl refl refl refl refl refl refl refl refl refl refl level lo hi

pub idle_RightParen : IsIdle RightParen
unfolding operators same_kind
idle_RightParen level lo hi = operation_begins level (operations (level - 1)) (Some RightParen) ∘ each (λ n. begins RightParen n ≡ false) refl refl refl refl refl refl refl refl refl refl refl level lo hi

pub idle_RightBracket : IsIdle RightBracket
unfolding operators same_kind
idle_RightBracket level lo hi = operation_begins level (operations (level - 1)) (Some RightBracket) ∘ each (λ n. begins RightBracket n ≡ false) refl refl refl refl refl refl refl refl refl refl refl level lo hi

pub idle_RightBrace : IsIdle RightBrace
unfolding operators same_kind
idle_RightBrace level lo hi = operation_begins level (operations (level - 1)) (Some RightBrace) ∘ each (λ n. begins RightBrace n ≡ false) refl refl refl refl refl refl refl refl refl refl refl level lo hi

pub idle_Colon : IsIdle Colon
unfolding operators same_kind
idle_Colon level lo hi = operation_begins level (operations (level - 1)) (Some Colon) ∘ each (λ n. begins Colon n ≡ false) refl refl refl refl refl refl refl refl refl refl refl level lo hi
