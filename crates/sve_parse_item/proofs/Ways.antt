-- Which alternative of a part of a generate construct is read, by what begins here.
use Rattle.std.proofs.Common.{◌≡◌, ℕ, true, false, List, refl}
use Rattle.sve_token.specs.declared.kind.Kind.TheVariants.{Keyword, Colon}
use Rattle.sve_token.specs.declared.keywords.Keyword.TheVariants.{KwBegin, KwEnd, KwDefault}
use Rattle.sve_token.specs.declared.token.Token.{Token}
use Rattle.sve_grammar.specs.declared.symbol.Symbol.TheVariants.{Expression, Item}
use Rattle.sve_grammar.specs.Token.{kind_at, has_kind}
use Rattle.sve_grammar.specs.Rule.{tok, sym, word, ◌∙◌, opt}
use Rattle.sve_grammar.specs.Expressions.{more_expressions}
use Rattle.sve_grammar.specs.Declarations.{label}
use Rattle.sve_grammar.specs.Items.{items, generate_block, case_generate_item}
use Rattle.sve_grammar.specs.Reading.{with_left, with_right, reads, symbol}
use Rattle.sve_grammar.proofs.Idle.{first_way, last_way}

module _ (ts : List Token) (n i : ℕ) where
  pub block_body : has_kind (kind_at ts i) (Keyword KwBegin) ≡ true → reads ts (symbol ts n) generate_block i ≡ with_left (reads ts (symbol ts n) (word KwBegin ∙ opt label ∙ items ∙ word KwEnd ∙ opt label) i)
  unfolding generate_block
  block_body h = first_way ts n (word KwBegin ∙ opt label ∙ items ∙ word KwEnd ∙ opt label) (sym Item) i (rw h refl)

  pub block_item : has_kind (kind_at ts i) (Keyword KwBegin) ≡ false → reads ts (symbol ts n) generate_block i ≡ with_right (reads ts (symbol ts n) (sym Item) i)
  unfolding generate_block
  block_item h = last_way ts n (word KwBegin ∙ opt label ∙ items ∙ word KwEnd ∙ opt label) (sym Item) i (rw h refl) refl

  pub case_default : has_kind (kind_at ts i) (Keyword KwDefault) ≡ true → reads ts (symbol ts n) case_generate_item i ≡ with_left (reads ts (symbol ts n) (word KwDefault ∙ opt (tok Colon) ∙ generate_block) i)
  unfolding case_generate_item
  case_default h = first_way ts n (word KwDefault ∙ opt (tok Colon) ∙ generate_block) (sym Expression ∙ more_expressions ∙ tok Colon ∙ generate_block) i (rw h refl)

  pub case_labels : has_kind (kind_at ts i) (Keyword KwDefault) ≡ false → reads ts (symbol ts n) case_generate_item i ≡ with_right (reads ts (symbol ts n) (sym Expression ∙ more_expressions ∙ tok Colon ∙ generate_block) i)
  unfolding case_generate_item
  case_labels h = last_way ts n (word KwDefault ∙ opt (tok Colon) ∙ generate_block) (sym Expression ∙ more_expressions ∙ tok Colon ∙ generate_block) i (rw h refl) refl
