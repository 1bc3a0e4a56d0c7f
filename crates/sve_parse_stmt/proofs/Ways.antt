-- Which alternative of a rule is read by what begins here.
use Rattle.std.proofs.Common.{◌≡◌, ℕ, true, false, List, refl}
use Rattle.sve_token.specs.declared.kind.Kind.TheVariants.{Keyword, Colon}
use Rattle.sve_token.specs.declared.keywords.Keyword.TheVariants.{KwIf, KwDefault}
use Rattle.sve_token.specs.declared.token.Token.{Token}
use Rattle.sve_grammar.specs.declared.symbol.Symbol.TheVariants.{Expression, Statement}
use Rattle.sve_grammar.specs.Token.{kind_at, has_kind}
use Rattle.sve_grammar.specs.Rule.{tok, sym, word, ◌∙◌, opt}
use Rattle.sve_grammar.specs.Expressions.{more_expressions}
use Rattle.sve_grammar.specs.Statements.{choice, if_statement, case_statement, case_item}
use Rattle.sve_grammar.specs.Reading.{with_left, with_right, reads, symbol}
use Rattle.sve_grammar.proofs.Idle.{first_way, last_way}
use Rattle.sve_grammar.proofs.StartsOfStatements.{if_statement_starts, if_statement_full}

pub choice_if : (ts : List Token) (n i : ℕ) → has_kind (kind_at ts i) (Keyword KwIf) ≡ true → reads ts (symbol ts n) choice i ≡ with_left (reads ts (symbol ts n) if_statement i)
unfolding choice
choice_if ts n i h = first_way ts n if_statement case_statement i (rw (if_statement_starts (kind_at ts i)) h)

pub choice_case : (ts : List Token) (n i : ℕ) → has_kind (kind_at ts i) (Keyword KwIf) ≡ false → reads ts (symbol ts n) choice i ≡ with_right (reads ts (symbol ts n) case_statement i)
unfolding choice
choice_case ts n i h = last_way ts n if_statement case_statement i (rw (if_statement_starts (kind_at ts i)) h) if_statement_full

pub case_item_default : (ts : List Token) (n i : ℕ) → has_kind (kind_at ts i) (Keyword KwDefault) ≡ true
    → reads ts (symbol ts n) case_item i ≡ with_left (reads ts (symbol ts n) (word KwDefault ∙ opt (tok Colon) ∙ sym Statement) i)
unfolding case_item
case_item_default ts n i h = first_way ts n (word KwDefault ∙ opt (tok Colon) ∙ sym Statement) (sym Expression ∙ more_expressions ∙ tok Colon ∙ sym Statement) i (rw h refl)

pub case_item_labels : (ts : List Token) (n i : ℕ) → has_kind (kind_at ts i) (Keyword KwDefault) ≡ false
    → reads ts (symbol ts n) case_item i ≡ with_right (reads ts (symbol ts n) (sym Expression ∙ more_expressions ∙ tok Colon ∙ sym Statement) i)
unfolding case_item
case_item_labels ts n i h = last_way ts n (word KwDefault ∙ opt (tok Colon) ∙ sym Statement) (sym Expression ∙ more_expressions ∙ tok Colon ∙ sym Statement) i (rw h refl) refl
