-- The names that items of packages and of compilation units declare, in the order of the text (IEEE 1800-2017, 3.12.1, 6.18, 6.20, 13.4 and clause 26).
use Rattle.std.specs.Prelude.{ℕ, true, List, [], ◌∷◌, ◌++◌, map}
use Rattle.std.specs.List.{flat_map}
use Rattle.sve_tree.specs.declared.declaration.ParameterAssignment.{ParameterAssignment}
use Rattle.sve_tree.specs.declared.declaration.Parameters.{Parameters}
use Rattle.sve_tree.specs.declared.declaration.Typedef.{Typedef}
use Rattle.sve_tree.specs.declared.element.UnitItem.{UnitItem}
use Rattle.sve_tree.specs.declared.element.UnitItem.TheVariants as is_item
use Rattle.sve_tree.specs.declared.statement.Func.{Func}
use Rattle.sve_tree.specs.declared.statement.FunctionResult.{FunctionResult}
use Rattle.sve_tree.specs.declared.statement.FunctionResult.TheVariants as is_function_result
use Rattle.sve_tree.specs.Statements.{result_name}
use Rattle.sve_heading.specs.declared.heading.Heading.{Heading}
use Rattle.sve_heading.specs.Types.{declared_type_headings, name_heading, type_ref_headings}

abbrev pub function_heading : ℕ → Heading
function_heading token = record { token = token; is_function = true }

abbrev pub parameter_heading : ParameterAssignment → Heading
parameter_heading a = name_heading a.declarator.name

abbrev pub parameters_headings : Parameters → List Heading
parameters_headings p = declared_type_headings p.data_type ++ map parameter_heading p.assignments.items.items

abbrev pub typedef_headings : Typedef → List Heading
typedef_headings t = type_ref_headings t.data_type ++ name_heading t.declarator.name ∷ []

-- the type of a function's result stands in front of its name, and in the scope around it
abbrev pub result_headings : FunctionResult → List Heading
result_headings (is_function_result.Void keyword name) = []
result_headings (is_function_result.Typed result) = declared_type_headings result.data_type

abbrev pub function_headings : Func → List Heading
function_headings f = result_headings f.result_type ++ function_heading (result_name f.result_type) ∷ []

-- an import declares nothing
abbrev pub item_headings : UnitItem → List Heading
item_headings (is_item.Empty semicolon) = []
item_headings (is_item.Import declaration) = []
item_headings (is_item.Parameters declaration) = parameters_headings declaration.value
item_headings (is_item.Typedef declaration) = typedef_headings declaration.value
item_headings (is_item.Function function) = function_headings function.value

abbrev pub headings : List UnitItem → List Heading
headings items = flat_map item_headings items
