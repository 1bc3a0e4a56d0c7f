-- How many nodes of expressions statements have (own): those of the declarations in them (IEEE 1800-2017, 9.3.1 and 12.7.1). What a statement
-- computes is no constant, and counts nothing; nor do the loop variables of a `foreach`, which have no dimensions (12.7.3).
use Rattle.std.specs.Prelude.{ℕ, List, sum_by}
use Rattle.std.specs.List.{flat_map}
use Rattle.sve_tree.specs.declared.statement.BlockItem.{BlockItem}
use Rattle.sve_tree.specs.declared.statement.Stmt.{Stmt}
use Rattle.sve_env.specs.Told.{Told}
use Rattle.sve_statement_use.specs.Steps.{Closes, DeclaresData, DeclaresIndices, DeclaresLoop, DeclaresNamed, DeclaresNamedLoop, DeclaresParameters, DeclaresType, DeclaresVariables, Does, Local, Opens, Step, Uses}
use Rattle.sve_statement_use.specs.Statements.{block_item_steps, statement_steps}
use Rattle.sve_count.specs.Declarations.{data_nodes, loop_nodes, named_loop_nodes, named_nodes, parameters_nodes, typedef_nodes, variables_nodes}

abbrev pub local_nodes : Told → Local → ℕ
local_nodes m (Opens token) = 0
local_nodes m Closes = 0
local_nodes m (DeclaresData w) = data_nodes m w
local_nodes m (DeclaresVariables w) = variables_nodes m w
local_nodes m (DeclaresNamed w) = named_nodes m w
local_nodes m (DeclaresParameters w) = parameters_nodes m w
local_nodes m (DeclaresType w) = typedef_nodes m w
local_nodes m (DeclaresLoop variables) = loop_nodes m variables
local_nodes m (DeclaresNamedLoop name selects d value) = named_loop_nodes m selects.items d
local_nodes m (DeclaresIndices array names) = 0

abbrev pub step_nodes : Told → Step → ℕ
step_nodes m (Uses name) = 0
step_nodes m (Does local) = local_nodes m local

abbrev pub steps_nodes : Told → List Step → ℕ
steps_nodes m steps = sum_by (step_nodes m) steps

abbrev pub statement_nodes : Told → Stmt → ℕ
statement_nodes m statement = steps_nodes m (statement_steps statement)

abbrev pub block_items_nodes : Told → List BlockItem → ℕ
block_items_nodes m items = steps_nodes m (flat_map block_item_steps items)
