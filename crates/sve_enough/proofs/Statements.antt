-- The declarations in a statement or a function have at most as many nodes as it has tokens.
use Rattle.std.proofs.Common.{ℕ, ◌≡◌, List, [], ◌∷◌, ◌++◌, Option, Some, None, refl, arith}
use Rattle.std.specs.Global.{Box}
use Rattle.std.specs.List.{flat_map}
use Rattle.std.specs.Prelude.{sum_by}
use Rattle.std.proofs.lemmas.List.Sums.{sum_by-append, sum_by-cons}
use Rattle.sve_grammar.specs.Reading.{Tree}
use Rattle.sve_tree.specs.Shape.{optional_tree}
use Rattle.sve_tree.specs.Statements.{block_item_tree, case_item_tree, case_item_trees, for_initialization_tree, formal_tree, formals_tree, func_tree, function_result_tree, if_statement_tree, optional_else_branch, stmt_tree}
use Rattle.sve_tree.specs.Statements.{block_item_row as block_item_trees}
use Rattle.sve_tree.specs.declared.row.Row.{Row}
use Rattle.sve_tree.specs.declared.expression.Expr.{Expr}
use Rattle.sve_tree.specs.declared.statement.Block.{Row_of-BlockItem, end_of-BlockItem, more_of-BlockItem}
use Rattle.sve_tree.specs.declared.statement.BlockItem.{BlockItem}
use Rattle.sve_tree.specs.declared.statement.BlockItem.TheVariants as is_block_item
use Rattle.sve_tree.specs.declared.statement.CaseItem.{CaseItem}
use Rattle.sve_tree.specs.declared.statement.CaseItem.TheVariants as is_case_item
use Rattle.sve_tree.specs.declared.statement.CaseStatement.{Row_of-CaseItem, end_of-CaseItem, more_of-CaseItem}
use Rattle.sve_tree.specs.declared.statement.ForInitialization.{ForInitialization}
use Rattle.sve_tree.specs.declared.statement.ForInitialization.TheVariants as is_for_initialization
use Rattle.sve_tree.specs.declared.statement.ForStep.{ForStep}
use Rattle.sve_tree.specs.declared.statement.Formal.{Formal}
use Rattle.sve_tree.specs.declared.statement.Formals.{Formals}
use Rattle.sve_tree.specs.declared.statement.Func.{Func}
use Rattle.sve_tree.specs.declared.statement.FunctionResult.{FunctionResult}
use Rattle.sve_tree.specs.declared.statement.FunctionResult.TheVariants as is_result
use Rattle.sve_tree.specs.declared.statement.IfStatement.{IfStatement, IfStatement', Held-IfStatement-otherwise, None', Some'}
use Rattle.sve_tree.specs.declared.statement.Stmt.{Stmt}
use Rattle.sve_tree.specs.declared.statement.Stmt.TheVariants as is_stmt
use Rattle.sve_env.specs.Told.{Told}
use Rattle.sve_use.specs.Use.{Use}
use Rattle.sve_use.specs.Uses.{uses}
use Rattle.sve_simple_use.specs.Simple.{for_step_uses, name_statement_uses, optional_uses, simple_uses, target_uses}
use Rattle.sve_statement_use.specs.Steps.{Closes, Does, Opens, Step, Uses, used}
use Rattle.sve_statement_use.specs.Statements.{block_item_row, block_item_steps, case_item_row, case_item_steps, else_steps, for_head_steps, foreach_head_steps, if_steps, initial_steps, statement_steps}
use Rattle.sve_count.specs.Statements.{step_nodes, steps_nodes}
use Rattle.sve_count.specs.Functions.{formal_nodes, formals_nodes, function_nodes, result_nodes}
use Rattle.sve_enough.proofs.Counts.{ReachAll, Reaches, all_reach, list_reach, optional_reach, repeated_reach}
use Rattle.sve_enough.proofs.Expressions.{IsWithoutSteps}
use Rattle.sve_enough.proofs.Types.{declarator_reach, typed_reach}
use Rattle.sve_enough.proofs.Declarations.{block_data_reach, local_reach, loop_reach, named_reach, parameters_reach, selects_reach, typedef_reach, variables_reach}

-- ---- steps that count nothing

module _ (m : Told) where
  used_none : (names : List Use) → steps_nodes m (used names) ≡ 0
  used_none [] = refl
  used_none (name ∷ names) = let e = sum_by-cons (step_nodes m) (Uses name) (used names) in let a = used_none names in omega arith

  opened : (token : ℕ) (steps : List Step) → steps_nodes m (Does (Opens token) ∷ steps) ≡ steps_nodes m steps
  opened token steps = let e = sum_by-cons (step_nodes m) (Does (Opens token)) steps in omega arith

  closed : (steps : List Step) → steps_nodes m (steps ++ Does Closes ∷ []) ≡ steps_nodes m steps
  closed steps = let e = sum_by-append (step_nodes m) steps (Does Closes ∷ []) in omega arith

  behind_used : (names : List Use) (steps : List Step) → steps_nodes m (used names ++ steps) ≡ steps_nodes m steps
  behind_used names steps = let e = sum_by-append (step_nodes m) (used names) steps in let a = used_none names in omega arith

  before_used : (steps : List Step) (names : List Use) → steps_nodes m (steps ++ used names) ≡ steps_nodes m steps
  before_used steps names = let e = sum_by-append (step_nodes m) steps (used names) in let a = used_none names in omega arith

  for_head_nodes : (keyword : ℕ) (first : ForInitialization) (condition : Option (Box Expr)) (turns : Row ForStep ℕ) → steps_nodes m (for_head_steps keyword first condition turns) ≡ steps_nodes m (initial_steps first)
  for_head_nodes keyword first condition turns =
      let a = before_used ((Does (Opens keyword) ∷ initial_steps first) ++ used (optional_uses condition)) (flat_map for_step_uses turns.items.items) in
      let b = before_used (Does (Opens keyword) ∷ initial_steps first) (optional_uses condition) in let c = opened keyword (initial_steps first) in omega arith

  foreach_head_none : (keyword array : ℕ) (names : Row ℕ ℕ) (steps : List Step) → steps_nodes m (foreach_head_steps keyword array names ++ steps) ≡ steps_nodes m steps
  foreach_head_none keyword array names steps = let e = sum_by-append (step_nodes m) (foreach_head_steps keyword array names) steps in omega arith

module _ (m : Told) (calls : IsWithoutSteps m) where
  initial_reach : (x : ForInitialization) → Reaches (steps_nodes m (initial_steps x)) (for_initialization_tree x)
  initial_reach (is_for_initialization.Declared variables) w = let a = loop_reach m calls variables.items.items variables.separators.items w.0 w.1.0 w.1.1.1 in omega arith
  initial_reach (is_for_initialization.Assigned name selects operator value) w = let a = used_none m (target_uses name selects ++ uses value.value) in omega arith
  initial_reach (is_for_initialization.NamedType name selects declarator value) w = let a = selects_reach m calls selects.items w.1.0 in let b = declarator_reach m calls declarator w.1.1.0 in omega arith

  -- ---- statements

  mutual
    unfolding stmt_tree statement_steps

    pub statement_reach : (x : Stmt) → Reaches (steps_nodes m (statement_steps x)) (stmt_tree x)
    statement_reach (is_stmt.Empty semicolon) w = let a = used_none m (simple_uses (is_stmt.Empty semicolon)) in omega arith
    statement_reach (is_stmt.Block' _ begin label _ items end end_label) w =
        let a = opened m begin (block_item_row items ++ Does Closes ∷ []) in let b = closed m (block_item_row items) in let c = block_items_reach items w.1.1.0 in omega arith
    statement_reach (is_stmt.If' uniqueness _ statement) w = let a = if_reach statement w.1 in omega arith
    statement_reach (is_stmt.Case' uniqueness _ keyword selector _ items end) w =
        let a = behind_used m (uses selector.value.value) (case_item_row items) in
        let b = list_reach (λ (t : Tree). t) (steps_nodes m (case_item_row items)) (case_item_trees items) (case_items_reach items) w.1.1.1.0 w.1.1.1.1.0 in omega arith
    statement_reach (is_stmt.For' _ keyword opening initialization first_semicolon condition second_semicolon turns closing _ body) w =
        let a = closed m (for_head_steps keyword initialization condition turns ++ statement_steps body) in let b = sum_by-append (step_nodes m) (for_head_steps keyword initialization condition turns) (statement_steps body) in
        let c = for_head_nodes m keyword initialization condition turns in let d = initial_reach initialization w.1.1.0 in let e = statement_reach body w.1.1.1.1.1.1.1.1 in omega arith
    statement_reach (is_stmt.Foreach' _ keyword opening array opening_bracket names closing_bracket closing _ body) w =
        let a = closed m (foreach_head_steps keyword array names ++ statement_steps body) in let b = foreach_head_none m keyword array names (statement_steps body) in let c = statement_reach body w.1.1.1.1.1.1.1.1 in omega arith
    statement_reach (is_stmt.Loop' _ keyword condition _ body) w = let a = behind_used m (uses condition.value.value) (statement_steps body) in let b = statement_reach body w.1.1 in omega arith
    statement_reach (is_stmt.Do' _ keyword _ body while_keyword condition semicolon) w = let a = before_used m (statement_steps body) (uses condition.value.value) in let b = statement_reach body w.1.0 in omega arith
    statement_reach (is_stmt.Return statement) w = let a = used_none m (simple_uses (is_stmt.Return statement)) in omega arith
    statement_reach (is_stmt.Break keyword semicolon) w = let a = used_none m (simple_uses (is_stmt.Break keyword semicolon)) in omega arith
    statement_reach (is_stmt.Continue keyword semicolon) w = let a = used_none m (simple_uses (is_stmt.Continue keyword semicolon)) in omega arith
    statement_reach (is_stmt.SystemTask task) w = let a = used_none m (simple_uses (is_stmt.SystemTask task)) in omega arith
    statement_reach (is_stmt.VoidCall call) w = let a = used_none m (simple_uses (is_stmt.VoidCall call)) in omega arith
    statement_reach (is_stmt.Step statement) w = let a = used_none m (simple_uses (is_stmt.Step statement)) in omega arith
    statement_reach (is_stmt.Concatenation assignment) w = let a = used_none m (simple_uses (is_stmt.Concatenation assignment)) in omega arith
    statement_reach (is_stmt.Name statement) w = let a = used_none m (simple_uses (is_stmt.Name statement)) in omega arith

    block_item_reach : (x : BlockItem) → Reaches (steps_nodes m (block_item_steps x)) (block_item_tree x)
    block_item_reach (is_block_item.Local lifetime declaration) w = let a = local_reach m calls declaration.value.data_type declaration.value.declarators w.1.0 in omega arith
    block_item_reach (is_block_item.Variable declaration) w = let a = variables_reach m calls declaration.value w in omega arith
    block_item_reach (is_block_item.Data declaration) w = let a = block_data_reach m calls declaration.value.data_type declaration.value.declarators declaration.value.semicolon w in omega arith
    block_item_reach (is_block_item.Parameters declaration) w = let a = parameters_reach m calls declaration.value w in omega arith
    block_item_reach (is_block_item.Typedef declaration) w = let a = typedef_reach m calls declaration.value w in omega arith
    block_item_reach (is_block_item.NamedData declaration) w = let a = named_reach m calls declaration.value w in omega arith
    block_item_reach (is_block_item.Name statement) w = let a = used_none m (name_statement_uses statement.value) in omega arith
    block_item_reach (is_block_item.Statement statement) w = statement_reach statement w

    block_items_reach : {n : _} (row : Row_of-BlockItem n) → Reaches (steps_nodes m (block_item_row row)) (block_item_trees row)
    block_items_reach end_of-BlockItem w = omega arith
    block_items_reach (more_of-BlockItem item rest) w =
        let e = sum_by-append (step_nodes m) (block_item_steps item) (block_item_row rest) in let a = block_item_reach item w.0 in let b = block_items_reach rest w.1 in omega arith

    if_reach : (x : IfStatement) → Reaches (steps_nodes m (if_steps x)) (if_statement_tree x)
    if_reach (IfStatement' keyword condition _ chosen otherwise) w =
        let a = behind_used m (uses condition.value.value) (statement_steps chosen) in let e = sum_by-append (step_nodes m) (used (uses condition.value.value) ++ statement_steps chosen) (else_steps otherwise) in
        let b = statement_reach chosen w.1.1.0 in let c = else_reach otherwise w.1.1.1 in omega arith

    else_reach : (x : Held-IfStatement-otherwise) → Reaches (steps_nodes m (else_steps x)) (optional_else_branch x)
    else_reach None' w = omega arith
    else_reach (Some' keyword _ statement) w = let a = statement_reach statement w.1 in omega arith

    case_item_reach : (x : CaseItem) → Reaches (steps_nodes m (case_item_steps x)) (case_item_tree x)
    case_item_reach (is_case_item.Default' keyword colon _ statement) w = let a = statement_reach statement w.1.1 in omega arith
    case_item_reach (is_case_item.Labels' labels colon _ statement) w = let a = behind_used m (flat_map uses labels.items.items) (statement_steps statement) in let b = statement_reach statement w.1.1.1 in omega arith

    case_items_reach : {n : _} (row : Row_of-CaseItem n) → ReachAll (λ (t : Tree). t) (steps_nodes m (case_item_row row)) (case_item_trees row)
    case_items_reach end_of-CaseItem = omega arith
    case_items_reach (more_of-CaseItem item rest) =
        let e = sum_by-append (step_nodes m) (case_item_steps item) (case_item_row rest) in (steps_nodes m (case_item_steps item), steps_nodes m (case_item_row rest), (omega arith), case_item_reach item, case_items_reach rest)

  -- ---- functions

  items_reach : (xs : List BlockItem) → ReachAll block_item_tree (steps_nodes m (flat_map block_item_steps xs)) xs
  items_reach [] = omega arith
  items_reach (x ∷ xs) =
      let e = sum_by-append (step_nodes m) (block_item_steps x) (flat_map block_item_steps xs) in (steps_nodes m (block_item_steps x), steps_nodes m (flat_map block_item_steps xs), (omega arith), block_item_reach x, items_reach xs)

  formal_reach : (x : Formal) → Reaches (formal_nodes m x) (formal_tree x)
  formal_reach x w = let a = typed_reach m calls x.parameter.data_type x.parameter.declarator w.1.1 in omega arith

  formals_reach : (x : Option Formals) → Reaches (formals_nodes m x) (optional_tree formals_tree x)
  formals_reach None w = omega arith
  formals_reach (Some x) w =
      let a = optional_reach formal_tree (sum_by (formal_nodes m) x.formals.items.items) x.formals.items.items x.formals.separators.items (all_reach formal_tree (formal_nodes m) formal_reach x.formals.items.items) w.1.0 in omega arith

  result_reach : (x : FunctionResult) → Reaches (result_nodes m x) (function_result_tree x)
  result_reach (is_result.Void keyword name) w = omega arith
  result_reach (is_result.Typed result) w = let a = typed_reach m calls result.data_type result.declarator w in omega arith

  pub function_reach : (x : Func) → Reaches (function_nodes m x) (func_tree x)
  function_reach x w =
      let a = result_reach x.result_type w.1.1.0 in let b = formals_reach x.formals w.1.1.1.0 in
      let c = repeated_reach block_item_tree (steps_nodes m (flat_map block_item_steps x.items.items)) x.items.items (items_reach x.items.items) w.1.1.1.1.1.0 in omega arith
