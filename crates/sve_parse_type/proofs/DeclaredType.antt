-- The two ways on behind the identifier that a declared name or its type begins with.
use Rattle.std.proofs.Common.{◌≡◌, ℕ, true, false, List, refl, ◌∙◌ as ◌∘◌}
use Rattle.sve_token.specs.declared.kind.Kind.TheVariants.{Identifier, ColonColon}
use Rattle.sve_token.specs.declared.token.Token.{Token}
use Rattle.sve_grammar.specs.Token.{kind_at, has_kind}
use Rattle.sve_grammar.specs.Rule.{tok, ◌∙◌, opt}
use Rattle.sve_grammar.specs.Reading.{with_left, with_right, reads, symbol}
use Rattle.sve_grammar.specs.Expressions.{dimensions}
use Rattle.sve_grammar.specs.Types.{declared_name, declared_type_end}
use Rattle.sve_grammar.proofs.Begins.{or_none}
use Rattle.sve_grammar.proofs.Idle.{last_way}

-- behind a package, the type's name
pub scoped_end : (ts : List Token) (n i : ℕ) → has_kind (kind_at ts i) ColonColon ≡ true
    → reads ts (symbol ts n) declared_type_end i ≡ with_left (reads ts (symbol ts n) (tok ColonColon ∙ tok Identifier ∙ dimensions ∙ declared_name) i)
unfolding declared_type_end
scoped_end ts n i s = rw s refl

-- else dimensions, and the declared name where it is not the identifier itself
pub plain_end : (ts : List Token) (n i : ℕ) → has_kind (kind_at ts i) ColonColon ≡ false
    → reads ts (symbol ts n) declared_type_end i ≡ with_right (reads ts (symbol ts n) (dimensions ∙ opt declared_name) i)
unfolding declared_type_end
plain_end ts n i s =
    last_way ts n (tok ColonColon ∙ tok Identifier ∙ dimensions ∙ declared_name) (dimensions ∙ opt declared_name) i (or_none (has_kind (kind_at ts i) ColonColon) ∘ s) refl
