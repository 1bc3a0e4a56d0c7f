-- Functions in a scope (IEEE 1800-2017, 13.4): a name with the type of the result stands in the scope around, and all else in a scope of the function's own.
use Rattle.std.specs.Prelude.{ℕ, List, Option, Some, None}
use Rattle.std.specs.List.{flat_map, fold}
use Rattle.sve_types.specs.DataType.{DataType}
use Rattle.sve_env.specs.Told.{Told}
use Rattle.sve_tree.specs.Statements.{result_name}
use Rattle.sve_tree.specs.declared.token_word.Word.{Word}
use Rattle.sve_tree.specs.declared.data_type.DeclaredType.{DeclaredType}
use Rattle.sve_tree.specs.declared.data_type.DeclaredType.TheVariants as is_declared
use Rattle.sve_tree.specs.declared.data_type.TypedName.{TypedName}
use Rattle.sve_tree.specs.declared.statement.Func.{Func}
use Rattle.sve_tree.specs.declared.statement.FunctionResult.{FunctionResult}
use Rattle.sve_tree.specs.declared.statement.FunctionResult.TheVariants as is_result
use Rattle.sve_use.specs.Use.{Use}
use Rattle.sve_statement_use.specs.Statements.{block_item_steps}
use Rattle.sve_type_rule.specs.Outcomes.{Outcome}
use Rattle.sve_type_of.specs.TypeOf.{declared, notes_in}
use Rattle.sve_scope.specs.declared.what.What.TheVariants as is_what
use Rattle.sve_contents.specs.declared.contents.Contents.{Contents}
use Rattle.sve_contents.specs.Nested.{entered, left}
use Rattle.sve_contents.specs.Reading.{noted_all}
use Rattle.sve_enumerated.specs.declared.passed.Passed.{Passed}
use Rattle.sve_enumerated.specs.Passing.{passed_to}
use Rattle.sve_enumerated.specs.Types.{named_in_ref}
use Rattle.sve_scoped.specs.Assignments.{is_text}
use Rattle.sve_scoped.specs.Said.{declared_at, out_if}
use Rattle.sve_formal_data.specs.Formals.{with_formals}
use Rattle.sve_local.specs.Steps.{stepped}

-- the names that the type of a result declares stand in the scope around
unfoldable pub names_of_result : List Word → DataType → Passed → DeclaredType → Passed
names_of_result ws ty p (is_declared.Explicit t) = named_in_ref ws ty p t
names_of_result ws ty p (is_declared.Implicit sign dimensions) = p

-- a string is out for a result (own)
abbrev pub named_function : List Word → Contents → ℕ → DataType → Contents
named_function ws c token ty = declared_at ws (out_if ws c token (is_text ty)) token (is_what.Function (Some ty)) token

unfoldable pub function_name : List Word → Passed → ℕ → DataType → Contents
function_name ws p token ty = named_function ws (passed_to ws p token).contents token ty

abbrev pub result_over : List Word → Contents → ℕ → TypedName → Told → Outcome → Contents
result_over ws c keyword typed m o = function_name ws (names_of_result ws o.ty (record { contents = noted_all c (notes_in m o.faults); at = keyword }) typed.data_type) typed.declarator.name o.ty

-- what is known in the scope, as far as its text was read
module _ (known : Contents → Told) (ws : List Word) where
  abbrev pub with_result : Contents → ℕ → TypedName → Contents
  with_result c keyword typed = result_over ws c keyword typed (known c) (declared (known c) typed.data_type)

  abbrev pub with_result_type : Contents → ℕ → FunctionResult → Contents
  with_result_type c keyword (is_result.Void void name) = declared_at ws c name (is_what.Function None) name
  with_result_type c keyword (is_result.Typed typed) = with_result c keyword typed

-- the type of the result, where there is one
abbrev pub result_in : Told → FunctionResult → Option DataType
result_in m (is_result.Void void name) = None
result_in m (is_result.Typed typed) = Some (declared m typed.data_type).ty

-- within a function its name is a variable of that type (13.4.1)
abbrev pub own_variable : List Word → Contents → ℕ → Option DataType → Contents
own_variable ws c token None = c
own_variable ws c token (Some ty) = declared_at ws c token (is_what.Variable ty) token

-- where this is known in a scope, as far as its text was read, and where uses of names leave this
module _ (known : Contents → Told) (used : Contents → Use → Contents) (ws : List Word) where
  -- the scope of the function: its name, its formal arguments, and what its body declares, in the order of the text
  abbrev pub body_over : Contents → Func → Option DataType → Contents
  body_over c f ty = left (fold (stepped known used ws) (with_formals known ws (own_variable ws (entered c) (result_name f.result_type) ty) f.formals) (flat_map block_item_steps f.items.items))

  abbrev pub with_function : Contents → Func → Contents
  with_function c f = body_over (with_result_type known ws c f.keyword f.result_type) f (result_in (known c) f.result_type)
