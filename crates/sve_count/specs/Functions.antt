-- How many nodes of expressions a function has (own): those of its result, of its formal arguments and of the declarations in its body
-- (IEEE 1800-2017, 13.4).
use Rattle.std.specs.Prelude.{ℕ, ◌+◌, Option, Some, None, sum_by}
use Rattle.sve_tree.specs.declared.statement.Formal.{Formal}
use Rattle.sve_tree.specs.declared.statement.Formals.{Formals}
use Rattle.sve_tree.specs.declared.statement.Func.{Func}
use Rattle.sve_tree.specs.declared.statement.FunctionResult.{FunctionResult}
use Rattle.sve_tree.specs.declared.statement.FunctionResult.TheVariants as is_result
use Rattle.sve_env.specs.Told.{Told}
use Rattle.sve_type_of.specs.Nodes.{declared_nodes}
use Rattle.sve_count.specs.Declarations.{declarator_nodes}
use Rattle.sve_count.specs.Statements.{block_items_nodes}

-- an argument that repeats the type of the one before writes none, which has no nodes (13.3)
abbrev pub formal_nodes : Told → Formal → ℕ
formal_nodes m f = declared_nodes m f.parameter.data_type + declarator_nodes m f.parameter.declarator

abbrev pub formals_nodes : Told → Option Formals → ℕ
formals_nodes m None = 0
formals_nodes m (Some w) = sum_by (formal_nodes m) w.formals.items.items

abbrev pub result_nodes : Told → FunctionResult → ℕ
result_nodes m (is_result.Void void name) = 0
result_nodes m (is_result.Typed typed) = declared_nodes m typed.data_type

abbrev pub function_nodes : Told → Func → ℕ
function_nodes m f = result_nodes m f.result_type + formals_nodes m f.formals + block_items_nodes m f.items.items
