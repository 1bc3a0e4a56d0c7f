-- The kinds of tokens, and the kind of the token at a place (own).
use Rattle.std.specs.Prelude.{ℕ, Bool, false, List, map, length, Option, Some, None, ◌<◌, ◌≡◌}
use Rattle.std.specs.List.{slice_get}
use Rattle.std.specs.Option.{option_map}
use Rattle.sve_token.specs.declared.kind.Kind.{Kind}
use Rattle.sve_token.specs.declared.kind.Kind.TheVariants.{Keyword}
use Rattle.sve_token.specs.declared.keywords.Keyword.{Keyword as Word}
use Rattle.sve_token.specs.declared.token.Token.{Token}
use Rattle.sve_token.specs.contracts.kind.KindPartialEq.TheImpl as comparison

-- what `==` of kinds answers
unfoldable pub same_kind : Kind → Kind → Bool
same_kind = (comparison.ghosts).eq

-- behind the last token there is no kind
abbrev pub kind_at : List Token → ℕ → Option Kind
kind_at tokens i = option_map (λ token. token.kind) (slice_get tokens i)

abbrev pub has_kind : Option Kind → Kind → Bool
has_kind (Some found) kind = same_kind found kind
has_kind None kind = false

-- the kinds of the tokens, in order
abbrev pub kinds : List Token → List Kind
kinds tokens = map (λ token. token.kind) tokens

-- the keyword at a place, or none where no keyword stands there
abbrev pub IsKeyword : List Token → ℕ → Option Word → Type 0
IsKeyword tokens i None = (word : Word) → has_kind (kind_at tokens i) (Keyword word) ≡ false
IsKeyword tokens i (Some word) = (kind_at tokens i ≡ Some (Keyword word)) × (i < length tokens)
