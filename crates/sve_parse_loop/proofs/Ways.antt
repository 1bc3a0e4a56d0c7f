-- Which of two alternatives is read in the head of a loop, by what begins here.
use Rattle.std.proofs.Common.{◌≡◌, ℕ, true, false, List, refl}
use Rattle.sve_token.specs.declared.kind.Kind.TheVariants.{Identifier}
use Rattle.sve_token.specs.declared.token.Token.{Token}
use Rattle.sve_grammar.specs.declared.symbol.Symbol.TheVariants.{Expression, DataType}
use Rattle.sve_grammar.specs.Token.{kind_at, has_kind}
use Rattle.sve_grammar.specs.Rule.{Rule, tok, sym, ◌∙◌, starts, opens}
use Rattle.sve_grammar.specs.Reading.{Answer, with_left, with_right, reads, symbol}
use Rattle.sve_grammar.specs.Expressions.{scoped_name, selects}
use Rattle.sve_grammar.specs.Types.{declared_name, initializer}
use Rattle.sve_grammar.specs.Statements.{assignment_operator, increment_operator, assignment_or_increment, for_initialization_end, more_for_variables, for_initialization, for_step}
use Rattle.sve_grammar.proofs.Idle.{first_way, last_way}
use Rattle.sve_grammar.proofs.StartsOfTypes.{declared_name_full}
use Rattle.sve_grammar.proofs.StartsOfStatements.{assignment_operator_full, increment_operator_full}
use Rattle.sve_parse_assign.proofs.Ways.{no_tail, only_way, no_second_name}

module _ (ts : List Token) (n i : ℕ) where
  -- what is read here by a rule
  abbrev Reads : Rule → Answer
  Reads r = reads ts (symbol ts n) r i

  pub declaring_loop : opens DataType (kind_at ts i) ≡ true → Reads for_initialization ≡ with_left (Reads (sym DataType ∙ declared_name ∙ initializer ∙ more_for_variables))
  unfolding for_initialization
  declaring_loop h = first_way ts n (sym DataType ∙ declared_name ∙ initializer ∙ more_for_variables) (scoped_name ∙ selects ∙ for_initialization_end) i (rw h refl)

  pub naming_loop : opens DataType (kind_at ts i) ≡ false → Reads for_initialization ≡ with_right (Reads (scoped_name ∙ selects ∙ for_initialization_end))
  unfolding for_initialization
  naming_loop h = last_way ts n (sym DataType ∙ declared_name ∙ initializer ∙ more_for_variables) (scoped_name ∙ selects ∙ for_initialization_end) i (rw h refl) refl

  pub loop_variable : has_kind (kind_at ts i) Identifier ≡ true → Reads for_initialization_end ≡ with_right (Reads (declared_name ∙ initializer))
  unfolding for_initialization_end
  loop_variable h = last_way ts n (assignment_operator ∙ sym Expression) (declared_name ∙ initializer) i (rw ((no_tail (kind_at ts i) h).0, assignment_operator_full) refl) (rw assignment_operator_full refl)

  pub loop_assignment : has_kind (kind_at ts i) Identifier ≡ false → Reads for_initialization_end ≡ with_left (Reads (assignment_operator ∙ sym Expression))
  unfolding for_initialization_end
  loop_assignment h = only_way ts n i (assignment_operator ∙ sym Expression) (declared_name ∙ initializer) (no_second_name ts n i initializer h) (rw assignment_operator_full refl) (rw declared_name_full refl)

  pub step_before : starts increment_operator (kind_at ts i) ≡ true → Reads for_step ≡ with_left (Reads (increment_operator ∙ tok Identifier ∙ selects))
  unfolding for_step
  step_before h = first_way ts n (increment_operator ∙ tok Identifier ∙ selects) (tok Identifier ∙ selects ∙ assignment_or_increment) i (rw h refl)

  pub step_behind : starts increment_operator (kind_at ts i) ≡ false → Reads for_step ≡ with_right (Reads (tok Identifier ∙ selects ∙ assignment_or_increment))
  unfolding for_step
  step_behind h = last_way ts n (increment_operator ∙ tok Identifier ∙ selects) (tok Identifier ∙ selects ∙ assignment_or_increment) i (rw (h, increment_operator_full) refl) (rw increment_operator_full refl)
