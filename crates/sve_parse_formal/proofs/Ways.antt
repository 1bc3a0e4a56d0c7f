-- Which of two alternatives is read in front of a function's body, by what begins here.
use Rattle.std.proofs.Common.{◌≡◌, ℕ, true, false, List, refl}
use Rattle.sve_token.specs.declared.kind.Kind.TheVariants.{Keyword, Identifier}
use Rattle.sve_token.specs.declared.keywords.Keyword.TheVariants.{KwVoid}
use Rattle.sve_token.specs.declared.token.Token.{Token}
use Rattle.sve_grammar.specs.Token.{kind_at, has_kind}
use Rattle.sve_grammar.specs.Rule.{Rule, tok, ◌∙◌, word}
use Rattle.sve_grammar.specs.Reading.{Answer, with_left, with_right, reads, symbol}
use Rattle.sve_grammar.specs.Types.{declared_type}
use Rattle.sve_grammar.specs.Statements.{function_result}
use Rattle.sve_grammar.proofs.Idle.{first_way, last_way}

module _ (ts : List Token) (n i : ℕ) where
  -- what is read here by a rule
  abbrev Reads : Rule → Answer
  Reads r = reads ts (symbol ts n) r i

  pub void_result : has_kind (kind_at ts i) (Keyword KwVoid) ≡ true → Reads function_result ≡ with_left (Reads (word KwVoid ∙ tok Identifier))
  unfolding function_result
  void_result h = first_way ts n (word KwVoid ∙ tok Identifier) declared_type i (rw h refl)

  pub typed_result : has_kind (kind_at ts i) (Keyword KwVoid) ≡ false → Reads function_result ≡ with_right (Reads declared_type)
  unfolding function_result
  typed_result h = last_way ts n (word KwVoid ∙ tok Identifier) declared_type i (rw h refl) refl
