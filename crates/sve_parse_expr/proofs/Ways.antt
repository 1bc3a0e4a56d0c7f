-- Which alternative of a rule is read, by what begins here.
use Rattle.std.proofs.Common.{◌≡◌, ℕ, ◌+◌, true, false, List, Ok, refl, ap, ◌∙◌ as ◌∘◌}
use Rattle.sve_token.specs.declared.kind.Kind.TheVariants.{Keyword, Identifier, LeftParen, LeftBracket, RightBracket, LeftBrace, Colon, Dot, Apostrophe}
use Rattle.sve_token.specs.declared.keywords.Keyword.TheVariants.{KwDefault}
use Rattle.sve_token.specs.declared.token.Token.{Token}
use Rattle.sve_grammar.specs.declared.symbol.Symbol.TheVariants.{Expression, Conditional, Unary}
use Rattle.sve_grammar.specs.declared.stop.Stop.{Stop}
use Rattle.sve_grammar.specs.declared.stop.Stop.TheVariants.{At, NoMemory}
use Rattle.sve_grammar.specs.Token.{kind_at, has_kind}
use Rattle.sve_grammar.specs.Rule.{tok, word, sym, ◌∙◌, ◌∣◌, opt, starts}
use Rattle.sve_grammar.specs.Expressions.{select, bracket_select, postfix, argument_list, cast, pattern, pattern_item, pattern_item_end, concatenation_end, braced_expressions, more_expressions, value_range, expression, implication_operator, unary, unary_operator, primary}
use Rattle.sve_grammar.specs.Reading.{Tree, pair, left, with_left, with_right, reads, symbol}
use Rattle.sve_grammar.specs.Gives.{Fails}
use Rattle.sve_grammar.proofs.Idle.{first_way, last_way}
use Rattle.sve_grammar.proofs.StartsOfExpressions.{select_full, argument_list_starts, argument_list_full, cast_starts, cast_full, braced_expressions_starts, braced_expressions_full, unary_operator_full}

pub select_member : (ts : List Token) (n i : ℕ) → has_kind (kind_at ts i) Dot ≡ true → reads ts (symbol ts n) select i ≡ with_left (reads ts (symbol ts n) (tok Dot ∙ tok Identifier) i)
unfolding select
select_member ts n i h = first_way ts n (tok Dot ∙ tok Identifier) bracket_select i (rw h refl)

pub select_bracket : (ts : List Token) (n i : ℕ) → has_kind (kind_at ts i) Dot ≡ false → reads ts (symbol ts n) select i ≡ with_right (reads ts (symbol ts n) bracket_select i)
unfolding select
select_bracket ts n i h = last_way ts n (tok Dot ∙ tok Identifier) bracket_select i (rw h refl) refl

-- ---- what is applied to a name

postfix_later : (ts : List Token) (n i : ℕ) → starts select (kind_at ts i) ≡ false → reads ts (symbol ts n) postfix i ≡ with_right (reads ts (symbol ts n) (argument_list ∣ cast ∣ pattern) i)
unfolding postfix
postfix_later ts n i s = last_way ts n select (argument_list ∣ cast ∣ pattern) i s select_full

pub postfix_select : (ts : List Token) (n i : ℕ) → starts select (kind_at ts i) ≡ true → reads ts (symbol ts n) postfix i ≡ with_left (reads ts (symbol ts n) select i)
unfolding postfix
postfix_select ts n i s = first_way ts n select (argument_list ∣ cast ∣ pattern) i s

pub postfix_call : (ts : List Token) (n i : ℕ) → starts select (kind_at ts i) ≡ false → has_kind (kind_at ts i) LeftParen ≡ true → reads ts (symbol ts n) postfix i ≡ with_right (with_left (reads ts (symbol ts n) argument_list i))
postfix_call ts n i s p = postfix_later ts n i s ∘ ap with_right (first_way ts n argument_list (cast ∣ pattern) i (argument_list_starts (kind_at ts i) ∘ p))

pub postfix_cast : (ts : List Token) (n i : ℕ) → starts select (kind_at ts i) ≡ false → has_kind (kind_at ts i) LeftParen ≡ false → has_kind (kind_at ts i) Apostrophe ≡ true
    → reads ts (symbol ts n) postfix i ≡ with_right (with_right (with_left (reads ts (symbol ts n) cast i)))
postfix_cast ts n i s p q =
    postfix_later ts n i s
    ∘ ap with_right (last_way ts n argument_list (cast ∣ pattern) i (argument_list_starts (kind_at ts i) ∘ p) argument_list_full
    ∘ ap with_right (first_way ts n cast pattern i (cast_starts (kind_at ts i) ∘ q)))

pub postfix_pattern : (ts : List Token) (n i : ℕ) → starts select (kind_at ts i) ≡ false → has_kind (kind_at ts i) LeftParen ≡ false → has_kind (kind_at ts i) Apostrophe ≡ false
    → reads ts (symbol ts n) postfix i ≡ with_right (with_right (with_right (reads ts (symbol ts n) pattern i)))
postfix_pattern ts n i s p q =
    postfix_later ts n i s
    ∘ ap with_right (last_way ts n argument_list (cast ∣ pattern) i (argument_list_starts (kind_at ts i) ∘ p) argument_list_full
    ∘ ap with_right (last_way ts n cast pattern i (cast_starts (kind_at ts i) ∘ q) cast_full))

-- ---- items of patterns, and what stands behind the first expression in braces

pub pattern_item_default : (ts : List Token) (n i : ℕ) → has_kind (kind_at ts i) (Keyword KwDefault) ≡ true
    → reads ts (symbol ts n) pattern_item i ≡ with_left (reads ts (symbol ts n) (word KwDefault ∙ tok Colon ∙ sym Expression) i)
unfolding pattern_item
pattern_item_default ts n i h = first_way ts n (word KwDefault ∙ tok Colon ∙ sym Expression) (sym Expression ∙ opt pattern_item_end) i (rw h refl)

pub pattern_item_value : (ts : List Token) (n i : ℕ) → has_kind (kind_at ts i) (Keyword KwDefault) ≡ false
    → reads ts (symbol ts n) pattern_item i ≡ with_right (reads ts (symbol ts n) (sym Expression ∙ opt pattern_item_end) i)
unfolding pattern_item
pattern_item_value ts n i h = last_way ts n (word KwDefault ∙ tok Colon ∙ sym Expression) (sym Expression ∙ opt pattern_item_end) i (rw h refl) refl

pub concatenation_end_braced : (ts : List Token) (n i : ℕ) → has_kind (kind_at ts i) LeftBrace ≡ true → reads ts (symbol ts n) concatenation_end i ≡ with_left (reads ts (symbol ts n) braced_expressions i)
unfolding concatenation_end
concatenation_end_braced ts n i h = first_way ts n braced_expressions more_expressions i (braced_expressions_starts (kind_at ts i) ∘ h)

pub concatenation_end_more : (ts : List Token) (n i : ℕ) → has_kind (kind_at ts i) LeftBrace ≡ false → reads ts (symbol ts n) concatenation_end i ≡ with_right (reads ts (symbol ts n) more_expressions i)
unfolding concatenation_end
concatenation_end_more ts n i h = last_way ts n braced_expressions more_expressions i (braced_expressions_starts (kind_at ts i) ∘ h) braced_expressions_full

-- ---- values and ranges

pub value_range_bracket : (ts : List Token) (n i : ℕ) → has_kind (kind_at ts i) LeftBracket ≡ true
    → reads ts (symbol ts n) value_range i ≡ with_left (reads ts (symbol ts n) (tok LeftBracket ∙ sym Expression ∙ tok Colon ∙ sym Expression ∙ tok RightBracket) i)
unfolding value_range
value_range_bracket ts n i h = first_way ts n (tok LeftBracket ∙ sym Expression ∙ tok Colon ∙ sym Expression ∙ tok RightBracket) (sym Expression) i (rw h refl)

pub value_range_value : (ts : List Token) (n i : ℕ) → has_kind (kind_at ts i) LeftBracket ≡ false → reads ts (symbol ts n) value_range i ≡ with_right (reads ts (symbol ts n) (sym Expression) i)
unfolding value_range
value_range_value ts n i h = last_way ts n (tok LeftBracket ∙ sym Expression ∙ tok Colon ∙ sym Expression ∙ tok RightBracket) (sym Expression) i (rw h refl) refl

-- ---- operands with operators before them

pub unary_before : (ts : List Token) (n i : ℕ) → starts unary_operator (kind_at ts i) ≡ true → reads ts (symbol ts n) unary i ≡ with_left (reads ts (symbol ts n) (unary_operator ∙ sym Unary) i)
unfolding unary
unary_before ts n i h = first_way ts n (unary_operator ∙ sym Unary) primary i (rw h refl)

pub unary_plain : (ts : List Token) (n i : ℕ) → starts unary_operator (kind_at ts i) ≡ false → reads ts (symbol ts n) unary i ≡ with_right (reads ts (symbol ts n) primary i)
unfolding unary
unary_plain ts n i h = last_way ts n (unary_operator ∙ sym Unary) primary i (rw (h, unary_operator_full) refl) (rw unary_operator_full refl)

-- ---- an implication

module _ (ts : List Token) (n i j : ℕ) (t u : Tree) (before : symbol ts n Conditional i ≡ Ok (t, j)) (begins : starts implication_operator (kind_at ts j) ≡ true) (operator : reads ts (symbol ts n) implication_operator j ≡ Ok (u, j + 1)) where
  pub implication_reads : (v : Tree) (k : ℕ) → symbol ts n Expression (j + 1) ≡ Ok (v, k) → reads ts (symbol ts n) expression i ≡ Ok (pair t (left (pair u v)), k)
  unfolding expression
  implication_reads v k h = rw (before, begins, operator, h) refl

  pub implication_fails : (e : Stop) → Fails e (symbol ts n Expression (j + 1)) → Fails e (reads ts (symbol ts n) expression i)
  unfolding expression
  implication_fails NoMemory h = tt
  implication_fails (At index deep) h = rw (before, begins, operator, h) refl
