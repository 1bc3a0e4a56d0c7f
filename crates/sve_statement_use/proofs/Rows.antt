-- The steps of each statement, as its fields are seen from outside.
use Rattle.std.specs.Global.{Box, Vec}
use Rattle.std.proofs.Common.{ℕ, ◌+◌, ◌<◌, ◌≤◌, List, [], ◌∷◌, ◌++◌, length, drop, get_or, Option, ◌≡◌, refl, ap, ◌∙◌}
use Rattle.std.specs.List.{flat_map}
use Rattle.std.proofs.lemmas.List.{drop_more}
use Rattle.std.proofs.Math.ListN.{drop_of_length-le}
use Rattle.sve_tree.specs.declared.word.Mark.{Mark}
use Rattle.sve_tree.specs.declared.word.Uniqueness.{Uniqueness}
use Rattle.sve_tree.specs.declared.statement.Block.{Block, Row_of-BlockItem, end_of-BlockItem, items-the_row-BlockItem, more_of-BlockItem}
use Rattle.sve_tree.specs.declared.statement.BlockItem.{BlockItem}
use Rattle.sve_tree.specs.declared.statement.IfStatement.{IfStatement, IfStatement', None', Some', out-IfStatement}
use Rattle.sve_tree.specs.declared.statement.CaseStatement.{CaseStatement, Row_of-CaseItem, end_of-CaseItem, items-the_row-CaseItem, more_of-CaseItem}
use Rattle.sve_tree.specs.declared.statement.CaseItem.{CaseItem}
use Rattle.sve_tree.specs.declared.statement.ForStatement.{ForStatement}
use Rattle.sve_tree.specs.declared.statement.ForeachStatement.{ForeachStatement}
use Rattle.sve_tree.specs.declared.statement.LoopStatement.{LoopStatement}
use Rattle.sve_tree.specs.declared.statement.DoStatement.{DoStatement}
use Rattle.sve_tree.specs.declared.statement.Stmt.TheVariants as is_stmt
use Rattle.sve_tree.specs.declared.statement.BlockItem.TheBlock.{hidden-the_row-BlockItem-0, hidden-the_row-CaseItem-1, items_hidden-the_row-BlockItem-0, items_hidden-the_row-CaseItem-1}
use denote.Hole.Carrier.{out}
use Rattle.sve_use.specs.Uses.{uses}
use Rattle.sve_statement_use.specs.Steps.{Closes, Does, Opens, Step, used}
use Rattle.sve_statement_use.specs.Statements.{block_item_row, block_item_steps, block_steps, branch_steps, case_item_row, case_item_steps, case_steps, do_steps, for_steps_of, foreach_steps, if_steps, loop_steps, statement_steps}

-- ---- rows

block_items_are : {n : _} (row : Row_of-BlockItem n) → block_item_row row ≡ flat_map block_item_steps (items-the_row-BlockItem n row)
unfolding statement_steps
block_items_are end_of-BlockItem = refl
block_items_are (more_of-BlockItem item rest) = ap (λ (steps : List Step). block_item_steps item ++ steps) (block_items_are rest)

block_items_of : (xs : Vec BlockItem) → block_item_row (hidden-the_row-BlockItem-0 xs) ≡ flat_map block_item_steps xs.items
block_items_of xs = block_items_are (hidden-the_row-BlockItem-0 xs) ∙ ap (flat_map block_item_steps) (items_hidden-the_row-BlockItem-0 xs)

case_items_are : {n : _} (row : Row_of-CaseItem n) → case_item_row row ≡ flat_map case_item_steps (items-the_row-CaseItem n row)
unfolding statement_steps
case_items_are end_of-CaseItem = refl
case_items_are (more_of-CaseItem item rest) = ap (λ (steps : List Step). case_item_steps item ++ steps) (case_items_are rest)

case_items_of : (xs : Vec CaseItem) → case_item_row (hidden-the_row-CaseItem-1 xs) ≡ flat_map case_item_steps xs.items
case_items_of xs = case_items_are (hidden-the_row-CaseItem-1 xs) ∙ ap (flat_map case_item_steps) (items_hidden-the_row-CaseItem-1 xs)

-- ---- statements

pub of_block : (block : Box Block) → statement_steps (is_stmt.Block block) ≡ block_steps block.value
unfolding statement_steps
of_block block = ap (λ (steps : List Step). Does (Opens block.value.begin) ∷ steps ++ Does Closes ∷ []) (block_items_of block.value.items)

pub of_if : (uniqueness : Option (Mark Uniqueness)) (statement : Box IfStatement) → statement_steps (is_stmt.If uniqueness statement) ≡ if_steps statement.value
unfolding statement_steps
of_if uniqueness statement = refl

pub of_case : (uniqueness : Option (Mark Uniqueness)) (statement : Box CaseStatement) → statement_steps (is_stmt.Case uniqueness statement) ≡ case_steps statement.value
unfolding statement_steps
of_case uniqueness statement = ap (λ (steps : List Step). used (uses statement.value.selector.value.value) ++ steps) (case_items_of statement.value.items)

pub of_for : (statement : Box ForStatement) → statement_steps (is_stmt.For statement) ≡ for_steps_of statement.value
unfolding statement_steps
of_for statement = refl

pub of_foreach : (statement : Box ForeachStatement) → statement_steps (is_stmt.Foreach statement) ≡ foreach_steps statement.value
unfolding statement_steps
of_foreach statement = refl

pub of_loop : (statement : Box LoopStatement) → statement_steps (is_stmt.Loop statement) ≡ loop_steps statement.value
unfolding statement_steps
of_loop statement = refl

pub of_do : (statement : Box DoStatement) → statement_steps (is_stmt.Do statement) ≡ do_steps statement.value
unfolding statement_steps
of_do statement = refl

pub of_branches : (statement : IfStatement) → if_steps statement ≡ used (uses (out-IfStatement statement).condition.value.value) ++ statement_steps (out-IfStatement statement).chosen.value ++ branch_steps (out-IfStatement statement).otherwise
unfolding statement_steps out-IfStatement out
of_branches (IfStatement' keyword condition p chosen None') = refl
of_branches (IfStatement' keyword condition p chosen (Some' keyword_2 q statement)) = refl

-- ---- the loops over rows

step : {A B : Type 0} (f : A → List B) (xs : List A) (i : ℕ) (x : A) → i < length xs → x ≡ get_or xs i x → flat_map f (drop i xs) ≡ f x ++ flat_map f (drop (i + 1) xs)
step f xs i x h e = rw (drop_more xs i x h, ← e) refl

end : {A B : Type 0} (f : A → List B) (xs : List A) (i : ℕ) → length xs ≤ i → flat_map f (drop i xs) ≡ []
end f xs i h = rw (drop_of_length-le xs h) refl

pub block_item_step : (xs : List BlockItem) (i : ℕ) (x : BlockItem) → i < length xs → x ≡ get_or xs i x → flat_map block_item_steps (drop i xs) ≡ block_item_steps x ++ flat_map block_item_steps (drop (i + 1) xs)
block_item_step xs i x h e = step block_item_steps xs i x h e

pub block_item_end : (xs : List BlockItem) (i : ℕ) → length xs ≤ i → flat_map block_item_steps (drop i xs) ≡ []
block_item_end xs i h = end block_item_steps xs i h

pub case_item_step : (xs : List CaseItem) (i : ℕ) (x : CaseItem) → i < length xs → x ≡ get_or xs i x → flat_map case_item_steps (drop i xs) ≡ case_item_steps x ++ flat_map case_item_steps (drop (i + 1) xs)
case_item_step xs i x h e = step case_item_steps xs i x h e

pub case_item_end : (xs : List CaseItem) (i : ℕ) → length xs ≤ i → flat_map case_item_steps (drop i xs) ≡ []
case_item_end xs i h = end case_item_steps xs i h
