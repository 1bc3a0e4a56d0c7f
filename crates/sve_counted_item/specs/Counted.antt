-- What declarations and statements of a module or an interface cost and leave (IEEE 1800-2017, 6.7, 6.8, 6.18, 6.20, 9.2 and 13.4). What they cost is own: the
-- nodes of their text, over what is known in the scope where they begin.
use Rattle.std.specs.Prelude.{List}
use Rattle.std.specs.List.{fold}
use Rattle.sve_tree.specs.declared.token_word.Word.{Word}
use Rattle.sve_tree.specs.declared.declaration.DataDeclaration.{DataDeclaration}
use Rattle.sve_tree.specs.declared.declaration.NetDeclaration.{NetDeclaration}
use Rattle.sve_tree.specs.declared.declaration.Parameters.{Parameters}
use Rattle.sve_tree.specs.declared.declaration.Typedef.{Typedef}
use Rattle.sve_tree.specs.declared.declaration.VariableDeclaration.{VariableDeclaration}
use Rattle.sve_tree.specs.declared.statement.Func.{Func}
use Rattle.sve_tree.specs.declared.statement.Stmt.{Stmt}
use Rattle.sve_statement_use.specs.Statements.{statement_steps}
use Rattle.sve_known.specs.Packages.{Known}
use Rattle.sve_contents.specs.declared.contents.Contents.{Contents}
use Rattle.sve_scoped.specs.Known.{told_in}
use Rattle.sve_used.specs.Used.{name_used}
use Rattle.sve_function.specs.Parameters.{with_parameters}
use Rattle.sve_function.specs.Typedefs.{with_typedef}
use Rattle.sve_function.specs.Declarations.{with_data, with_nets, with_variables}
use Rattle.sve_local.specs.Steps.{stepped_in}
use Rattle.sve_function.specs.Functions.{with_function}
use Rattle.sve_count.specs.Declarations.{data_nodes, nets_nodes, parameters_nodes, typedef_nodes, variables_nodes}
use Rattle.sve_count.specs.Functions.{function_nodes}
use Rattle.sve_count.specs.Statements.{statement_nodes}
use Rattle.sve_plan.specs.Plan.{Counted}

-- where these packages are known, in a chunk of these words
module _ (packages : List Known) (ws : List Word) where
  abbrev pub counted_typedef : Contents → Typedef → Counted Contents
  counted_typedef c w = (typedef_nodes (told_in packages ws c) w, with_typedef (told_in packages ws) ws c w)

  -- none of them can be overridden
  abbrev pub counted_parameters : Contents → Parameters → Counted Contents
  counted_parameters c w = (parameters_nodes (told_in packages ws c) w, with_parameters (told_in packages ws) ws c w)

  abbrev pub counted_nets : Contents → NetDeclaration → Counted Contents
  counted_nets c w = (nets_nodes (told_in packages ws c) w, with_nets (told_in packages ws) (name_used packages ws) ws c w)

  abbrev pub counted_variables : Contents → VariableDeclaration → Counted Contents
  counted_variables c w = (variables_nodes (told_in packages ws c) w, with_variables (told_in packages ws) (name_used packages ws) ws c w)

  abbrev pub counted_data : Contents → DataDeclaration → Counted Contents
  counted_data c w = (data_nodes (told_in packages ws c) w, with_data (told_in packages ws) (name_used packages ws) ws c w)

  unfoldable pub counted_function : Contents → Func → Counted Contents
  counted_function c f = (function_nodes (told_in packages ws c) f, with_function (told_in packages ws) (name_used packages ws) ws c f)

  -- the names that it uses and what it declares, step by step
  abbrev pub counted_statement : Contents → Stmt → Counted Contents
  counted_statement c s = (statement_nodes (told_in packages ws c) s, fold (stepped_in packages ws) c (statement_steps s))
