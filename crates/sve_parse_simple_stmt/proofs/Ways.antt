-- Which of two alternatives is read in a block, by what begins here.
use Rattle.std.proofs.Common.{◌≡◌, ℕ, true, false, List, refl}
use Rattle.sve_token.specs.declared.kind.Kind.TheVariants.{Identifier}
use Rattle.sve_token.specs.declared.token.Token.{Token}
use Rattle.sve_grammar.specs.declared.symbol.Symbol.TheVariants.{DataType}
use Rattle.sve_grammar.specs.Token.{kind_at, has_kind}
use Rattle.sve_grammar.specs.Rule.{Rule, sym, ◌∙◌, opens}
use Rattle.sve_grammar.specs.Reading.{Answer, with_left, with_right, reads, symbol}
use Rattle.sve_grammar.specs.Types.{declared_name, declaration_end, named_type}
use Rattle.sve_grammar.specs.Statements.{statement_tail, local_declaration, block_item_end}
use Rattle.sve_grammar.proofs.Idle.{first_way, last_way}
use Rattle.sve_grammar.proofs.StartsOfTypes.{declared_name_full}
use Rattle.sve_grammar.proofs.StartsOfStatements.{statement_tail_full}
use Rattle.sve_parse_assign.proofs.Ways.{no_tail, only_way, no_second_name}

module _ (ts : List Token) (n i : ℕ) where
  -- what is read here by a rule
  abbrev Reads : Rule → Answer
  Reads r = reads ts (symbol ts n) r i

  pub written_local : opens DataType (kind_at ts i) ≡ true → Reads local_declaration ≡ with_left (Reads (sym DataType ∙ declared_name ∙ declaration_end))
  unfolding local_declaration
  written_local h = first_way ts n (sym DataType ∙ declared_name ∙ declaration_end) (named_type ∙ declared_name ∙ declaration_end) i (rw h refl)

  pub named_local : opens DataType (kind_at ts i) ≡ false → Reads local_declaration ≡ with_right (Reads (named_type ∙ declared_name ∙ declaration_end))
  unfolding local_declaration
  named_local h = last_way ts n (sym DataType ∙ declared_name ∙ declaration_end) (named_type ∙ declared_name ∙ declaration_end) i (rw h refl) refl

  pub declaring_end : has_kind (kind_at ts i) Identifier ≡ true → Reads block_item_end ≡ with_right (Reads (declared_name ∙ declaration_end))
  unfolding block_item_end
  declaring_end h = last_way ts n statement_tail (declared_name ∙ declaration_end) i (no_tail (kind_at ts i) h).1 statement_tail_full

  pub doing_end : has_kind (kind_at ts i) Identifier ≡ false → Reads block_item_end ≡ with_left (Reads statement_tail)
  unfolding block_item_end
  doing_end h = only_way ts n i statement_tail (declared_name ∙ declaration_end) (no_second_name ts n i declaration_end h) statement_tail_full (rw declared_name_full refl)
