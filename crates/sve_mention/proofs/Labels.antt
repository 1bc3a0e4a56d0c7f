-- Statements and functions mention labels alone.
use Rattle.std.proofs.Common.{ℕ, List, [], ◌++◌, ◌≡◌, inl, inr, Option, Some, None}
use Rattle.std.specs.List.{Contains, flat_map}
use Rattle.std.proofs.lemmas.List.Elements.{Contains-append_cases}
use Rattle.sve_tree.specs.Statements.{result_name}
use Rattle.sve_tree.specs.declared.word.Label.{Label}
use Rattle.sve_tree.specs.declared.statement.Stmt.{Stmt}
use Rattle.sve_tree.specs.declared.statement.Block.{Row_of-BlockItem, end_of-BlockItem, more_of-BlockItem}
use Rattle.sve_tree.specs.declared.statement.BlockItem.{BlockItem}
use Rattle.sve_tree.specs.declared.statement.IfStatement.{IfStatement, IfStatement', Held-IfStatement-otherwise, None', Some'}
use Rattle.sve_tree.specs.declared.statement.CaseStatement.{Row_of-CaseItem, end_of-CaseItem, more_of-CaseItem}
use Rattle.sve_tree.specs.declared.statement.CaseItem.{CaseItem}
use Rattle.sve_tree.specs.declared.statement.Func.{Func}
use Rattle.sve_tree.specs.declared.statement.Stmt.TheVariants as is_stmt
use Rattle.sve_tree.specs.declared.statement.BlockItem.TheVariants as is_block_item
use Rattle.sve_tree.specs.declared.statement.CaseItem.TheVariants as is_case_item
use Rattle.sve_mention.specs.declared.mention.Mention.{Mention}
use Rattle.sve_mention.specs.declared.mention.Mention.TheVariants.{Instance, EndLabel}
use Rattle.sve_mention.specs.Labels.{end_label, label_name}
use Rattle.sve_mention.specs.InStatements.{statement_mentions, block_item_mentions, if_mentions, else_mentions, case_item_mentions, block_items_mentions, case_items_mentions, function_mentions}
use Rattle.sve_mention.proofs.Found.{nowhere, only, some_gives}

abbrev pub NoInstance : List Mention → Type 0
NoInstance ms = (definition : ℕ) → Contains ms (Instance definition) → ⊥

pub none_at_all : NoInstance []
none_at_all d c = nowhere (Instance d) c

pub none_in_both : (a b : List Mention) → NoInstance a → NoInstance b → NoInstance (a ++ b)
none_in_both a b p q d c = elim (Contains-append_cases a b (Instance d) c) [ inl x ↦ p d x | inr y ↦ q d y ]

pub none_in_label : (name : Option ℕ) (label : Option Label) → NoInstance (end_label name label)
none_in_label name None d c = nowhere (Instance d) c
none_in_label name (Some label) d c = let e : EndLabel name label.name ≡ Instance d = only (EndLabel name label.name) (Instance d) c in cc

pub none_in_each : {X : Type 0} (f : X → List Mention) → ((x : X) → NoInstance (f x)) → (xs : List X) → NoInstance (flat_map f xs)
none_in_each f h xs d c = let s = some_gives f xs (Instance d) c in h s.0 d s.2

mutual
  unfolding statement_mentions

  pub none_in_statement : (s : Stmt) → NoInstance (statement_mentions s)
  none_in_statement (is_stmt.Block' _ begin label _ items end last) = none_in_both (block_items_mentions items) (end_label (label_name label) last) (none_in_block_items items) (none_in_label (label_name label) last)
  none_in_statement (is_stmt.If' uniqueness _ statement) = none_in_if statement
  none_in_statement (is_stmt.Case' uniqueness _ keyword selector _ items end) = none_in_case_items items
  none_in_statement (is_stmt.For' _ keyword opening initialization first_semicolon condition second_semicolon steps closing _ body) = none_in_statement body
  none_in_statement (is_stmt.Foreach' _ keyword opening array opening_bracket names closing_bracket closing _ body) = none_in_statement body
  none_in_statement (is_stmt.Loop' _ keyword condition _ body) = none_in_statement body
  none_in_statement (is_stmt.Do' _ keyword _ body while_keyword condition semicolon) = none_in_statement body
  none_in_statement statement = none_at_all

  pub none_in_block_item : (item : BlockItem) → NoInstance (block_item_mentions item)
  none_in_block_item (is_block_item.Statement statement) = none_in_statement statement
  none_in_block_item declaration = none_at_all

  none_in_if : (statement : IfStatement) → NoInstance (if_mentions statement)
  none_in_if (IfStatement' keyword condition _ chosen otherwise) = none_in_both (statement_mentions chosen) (else_mentions otherwise) (none_in_statement chosen) (none_in_else otherwise)

  none_in_else : (otherwise : Held-IfStatement-otherwise) → NoInstance (else_mentions otherwise)
  none_in_else None' = none_at_all
  none_in_else (Some' keyword _ statement) = none_in_statement statement

  none_in_case_item : (item : CaseItem) → NoInstance (case_item_mentions item)
  none_in_case_item (is_case_item.Default' keyword colon _ statement) = none_in_statement statement
  none_in_case_item (is_case_item.Labels' labels colon _ statement) = none_in_statement statement

  none_in_block_items : {n : _} (items : Row_of-BlockItem n) → NoInstance (block_items_mentions items)
  none_in_block_items end_of-BlockItem = none_at_all
  none_in_block_items (more_of-BlockItem item rest) = none_in_both (block_item_mentions item) (block_items_mentions rest) (none_in_block_item item) (none_in_block_items rest)

  none_in_case_items : {n : _} (items : Row_of-CaseItem n) → NoInstance (case_items_mentions items)
  none_in_case_items end_of-CaseItem = none_at_all
  none_in_case_items (more_of-CaseItem item rest) = none_in_both (case_item_mentions item) (case_items_mentions rest) (none_in_case_item item) (none_in_case_items rest)

pub none_in_function : (function : Func) → NoInstance (function_mentions function)
none_in_function function = none_in_both (flat_map block_item_mentions function.items.items) (end_label (Some (result_name function.result_type)) function.label) (none_in_each block_item_mentions none_in_block_item function.items.items) (none_in_label (Some (result_name function.result_type)) function.label)
