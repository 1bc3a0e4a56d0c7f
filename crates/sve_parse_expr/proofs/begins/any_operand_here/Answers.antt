use Rattle.std.proofs.Common.{sym as flip, ◌∙◌ as ◌∘◌}
use Rattle.sve_grammar.specs.Expressions.{integer_type, signing}
use Rattle.sve_tree.specs.Words.{integer_keyword_tree, sign_tree}
use Rattle.sve_grammar.proofs.Idle.{found_begins}
use Rattle.sve_parse_expr.proofs.Leads.{leads_decimal, leads_based, leads_unbased, leads_text, leads_parenthesized, leads_pattern, leads_concatenation, leads_sign, leads_type, leads_system, leads_name}
use Rattle.sve_parse_expr.proofs.begins.any_operand_here.Goals as goal

pub returns-then-decimal : goal.returns-then-decimal
returns-then-decimal c = leads_decimal _ _ (flip c.is_kind-decimal.ensures ∘ c.if-decimal.true)

pub returns-then-based : goal.returns-then-based
returns-then-based c = leads_based _ _ (flip c.is_kind-decimal.ensures ∘ c.if-decimal.false) (flip c.is_kind-based.ensures ∘ c.if-based.true)

pub returns-then-unbased : goal.returns-then-unbased
returns-then-unbased c = leads_unbased _ _ (flip c.is_kind-decimal.ensures ∘ c.if-decimal.false) (flip c.is_kind-based.ensures ∘ c.if-based.false) (flip c.is_kind-unbased.ensures ∘ c.if-unbased.true)

pub returns-then-text : goal.returns-then-text
returns-then-text c = leads_text _ _ (flip c.is_kind-decimal.ensures ∘ c.if-decimal.false) (flip c.is_kind-based.ensures ∘ c.if-based.false) (flip c.is_kind-unbased.ensures ∘ c.if-unbased.false) (flip c.is_kind-text.ensures ∘ c.if-text.true)

pub returns-then-paren : goal.returns-then-paren
returns-then-paren c = leads_parenthesized _ _ (flip c.is_kind-decimal.ensures ∘ c.if-decimal.false) (flip c.is_kind-based.ensures ∘ c.if-based.false) (flip c.is_kind-unbased.ensures ∘ c.if-unbased.false) (flip c.is_kind-text.ensures ∘ c.if-text.false) (flip c.is_kind-paren.ensures ∘ c.if-paren.true)

pub returns-then-pattern : goal.returns-then-pattern
returns-then-pattern c = leads_pattern _ _ (flip c.is_kind-decimal.ensures ∘ c.if-decimal.false) (flip c.is_kind-based.ensures ∘ c.if-based.false) (flip c.is_kind-unbased.ensures ∘ c.if-unbased.false) (flip c.is_kind-text.ensures ∘ c.if-text.false) (flip c.is_kind-paren.ensures ∘ c.if-paren.false) (flip c.is_kind-pattern.ensures ∘ c.if-pattern.true)

pub returns-then-brace : goal.returns-then-brace
returns-then-brace c = leads_concatenation _ _ (flip c.is_kind-decimal.ensures ∘ c.if-decimal.false) (flip c.is_kind-based.ensures ∘ c.if-based.false) (flip c.is_kind-unbased.ensures ∘ c.if-unbased.false) (flip c.is_kind-text.ensures ∘ c.if-text.false) (flip c.is_kind-paren.ensures ∘ c.if-paren.false) (flip c.is_kind-pattern.ensures ∘ c.if-pattern.false) (flip c.is_kind-brace.ensures ∘ c.if-brace.true)

pub returns-then-signed : goal.returns-then-signed
returns-then-signed c = leads_sign _ _ (flip c.is_kind-decimal.ensures ∘ c.if-decimal.false) (flip c.is_kind-based.ensures ∘ c.if-based.false) (flip c.is_kind-unbased.ensures ∘ c.if-unbased.false) (flip c.is_kind-text.ensures ∘ c.if-text.false) (flip c.is_kind-paren.ensures ∘ c.if-paren.false) (flip c.is_kind-pattern.ensures ∘ c.if-pattern.false) (flip c.is_kind-brace.ensures ∘ c.if-brace.false) (found_begins c.args.tokens.now signing sign_tree c.args.at c.sign.result c.sign.ensures ∘ flip c.is_some-signed.ensures ∘ c.if-signed.true)

pub returns-then-typed : goal.returns-then-typed
returns-then-typed c = leads_type _ _ (flip c.is_kind-decimal.ensures ∘ c.if-decimal.false) (flip c.is_kind-based.ensures ∘ c.if-based.false) (flip c.is_kind-unbased.ensures ∘ c.if-unbased.false) (flip c.is_kind-text.ensures ∘ c.if-text.false) (flip c.is_kind-paren.ensures ∘ c.if-paren.false) (flip c.is_kind-pattern.ensures ∘ c.if-pattern.false) (flip c.is_kind-brace.ensures ∘ c.if-brace.false) (found_begins c.args.tokens.now signing sign_tree c.args.at c.sign.result c.sign.ensures ∘ flip c.is_some-signed.ensures ∘ c.if-signed.false) (found_begins c.args.tokens.now integer_type integer_keyword_tree c.args.at c.integer_keyword.result c.integer_keyword.ensures ∘ flip c.is_some-typed.ensures ∘ c.if-typed.true)

pub returns-then-system : goal.returns-then-system
returns-then-system c = leads_system _ _ (flip c.is_kind-decimal.ensures ∘ c.if-decimal.false) (flip c.is_kind-based.ensures ∘ c.if-based.false) (flip c.is_kind-unbased.ensures ∘ c.if-unbased.false) (flip c.is_kind-text.ensures ∘ c.if-text.false) (flip c.is_kind-paren.ensures ∘ c.if-paren.false) (flip c.is_kind-pattern.ensures ∘ c.if-pattern.false) (flip c.is_kind-brace.ensures ∘ c.if-brace.false) (found_begins c.args.tokens.now signing sign_tree c.args.at c.sign.result c.sign.ensures ∘ flip c.is_some-signed.ensures ∘ c.if-signed.false) (found_begins c.args.tokens.now integer_type integer_keyword_tree c.args.at c.integer_keyword.result c.integer_keyword.ensures ∘ flip c.is_some-typed.ensures ∘ c.if-typed.false) (flip c.is_kind-system.ensures ∘ c.if-system.true)

pub returns : goal.returns
returns c = leads_name _ _ (flip c.is_kind-decimal.ensures ∘ c.if-decimal.false) (flip c.is_kind-based.ensures ∘ c.if-based.false) (flip c.is_kind-unbased.ensures ∘ c.if-unbased.false) (flip c.is_kind-text.ensures ∘ c.if-text.false) (flip c.is_kind-paren.ensures ∘ c.if-paren.false) (flip c.is_kind-pattern.ensures ∘ c.if-pattern.false) (flip c.is_kind-brace.ensures ∘ c.if-brace.false) (found_begins c.args.tokens.now signing sign_tree c.args.at c.sign.result c.sign.ensures ∘ flip c.is_some-signed.ensures ∘ c.if-signed.false) (found_begins c.args.tokens.now integer_type integer_keyword_tree c.args.at c.integer_keyword.result c.integer_keyword.ensures ∘ flip c.is_some-typed.ensures ∘ c.if-typed.false) (flip c.is_kind-system.ensures ∘ c.if-system.false)
