-- Keywords that are not equal are not the same kind.
use Rattle.std.proofs.Common.{◌≡◌, false}
use denote.Enum.Bare.{false_same}
use Rattle.sve_token.specs.declared.kind.Kind.TheVariants.{Keyword}
use Rattle.sve_token.specs.declared.keywords.Keyword.{Keyword as Word}
use Rattle.sve_token.specs.contracts.keywords.Keyword.{the_type}
use Rattle.sve_grammar.specs.Token.{same_kind}

pub unlike_word : (w v : Word) → (w ≡ v → ⊥) → same_kind (Keyword w) (Keyword v) ≡ false
unfolding same_kind
unlike_word w v h = false_same the_type tt w v h
