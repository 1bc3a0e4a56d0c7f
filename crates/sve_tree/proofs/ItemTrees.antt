-- The tree of each variant: items.
use Rattle.std.specs.Global.{Box, Vec}
use Rattle.std.proofs.Common.{ℕ, List, [], ◌∷◌, map, Option, Some, None, ◌≡◌, refl, ap, ◌∙◌}
use Rattle.sve_grammar.specs.Reading.{Tree, leaf, left, right, turn}
use Rattle.sve_tree.specs.Shape.{◌▸◌, way, final, optional_tree, repeated_tree, first_tree, others_tree, first_of, others_of, row_first, row_rest, BeginsWith}
use Rattle.sve_tree.proofs.Shapes.{first_map, others_map}
use denote.Hole.Carrier.{roll}
use Rattle.sve_tree.specs.declared.row.Row.{Row}
use Rattle.sve_tree.specs.declared.expression.Expr.{Expr}
use Rattle.sve_tree.specs.declared.expression.Parenthesized.{Parenthesized}
use Rattle.sve_tree.specs.declared.expression.Dimension.{Dimension}
use Rattle.sve_tree.specs.Expressions.{parenthesized_tree, dimension_tree, tree_at}
use Rattle.sve_tree.specs.declared.data_type.Declarator.{Declarator}
use Rattle.sve_tree.specs.Types.{declarator_tree}
use Rattle.sve_tree.specs.declared.declaration.Parameters.{Parameters}
use Rattle.sve_tree.specs.declared.declaration.Typedef.{Typedef}
use Rattle.sve_tree.specs.declared.declaration.Import.{Import}
use Rattle.sve_tree.specs.declared.declaration.InitializedDeclarator.{InitializedDeclarator}
use Rattle.sve_tree.specs.declared.declaration.NetDeclaration.{NetDeclaration}
use Rattle.sve_tree.specs.declared.declaration.VariableDeclaration.{VariableDeclaration}
use Rattle.sve_tree.specs.declared.declaration.DataDeclaration.{DataDeclaration}
use Rattle.sve_tree.specs.Declarations.{parameters_tree, typedef_tree, import_tree, first_declarator, declaration_end_tree, net_declaration_tree, variable_declaration_tree}
use Rattle.sve_tree.specs.declared.statement.SystemTask.{SystemTask}
use Rattle.sve_tree.specs.declared.statement.Func.{Func}
use Rattle.sve_tree.specs.Statements.{system_task_tree, func_tree}
use Rattle.sve_tree.specs.Items.{item_tree, genvar_declaration_tree, continuous_assign_tree, clocked_procedure_tree, plain_procedure_tree, generate_region_tree, generate_block_tree, generate_body_tree, loop_generate_tree, if_generate_tree, else_generate_tree, case_generate_tree, case_generate_item_tree, modport_declaration_tree, instantiation_tree, data_item_tree, named_data_tree, case_generate_item_trees, item_row}
use Rattle.sve_tree.specs.declared.item.Item.{Item}
use Rattle.sve_tree.specs.declared.item.GenvarDeclaration.{GenvarDeclaration}
use Rattle.sve_tree.specs.declared.item.ContinuousAssign.{ContinuousAssign}
use Rattle.sve_tree.specs.declared.item.ClockedProcedure.{ClockedProcedure}
use Rattle.sve_tree.specs.declared.item.PlainProcedure.{PlainProcedure}
use Rattle.sve_tree.specs.declared.item.GenerateRegion.{GenerateRegion, Row_of-Item, end_of-Item, items-the_row-Item, more_of-Item}
use Rattle.sve_tree.specs.declared.item.GenerateBlock.{GenerateBlock}
use Rattle.sve_tree.specs.declared.item.GenerateBody.{GenerateBody}
use Rattle.sve_tree.specs.declared.item.LoopGenerate.{LoopGenerate}
use Rattle.sve_tree.specs.declared.item.IfGenerate.{IfGenerate, roll-IfGenerate}
use Rattle.sve_tree.specs.declared.item.ElseGenerate.{ElseGenerate}
use Rattle.sve_tree.specs.declared.item.CaseGenerate.{CaseGenerate, Row_of-CaseGenerateItem, end_of-CaseGenerateItem, items-the_row-CaseGenerateItem, more_of-CaseGenerateItem}
use Rattle.sve_tree.specs.declared.item.CaseGenerateItem.{CaseGenerateItem}
use Rattle.sve_tree.specs.declared.item.ModportDeclaration.{ModportDeclaration}
use Rattle.sve_tree.specs.declared.item.Instantiation.{Instantiation}
use Rattle.sve_tree.specs.declared.item.CaseGenerateItem.TheBlock.{hidden-the_row-CaseGenerateItem-1, hidden-the_row-Item-0, items_hidden-the_row-CaseGenerateItem-1, items_hidden-the_row-Item-0}
use Rattle.sve_tree.specs.declared.item.Item.TheVariants as is_item
use Rattle.sve_tree.specs.declared.item.GenerateBlock.TheVariants as is_generate_block
use Rattle.sve_tree.specs.declared.item.CaseGenerateItem.TheVariants as is_case_generate_item

-- ---- rows

item_row_is : {n : _} (row : Row_of-Item n) → item_row row ≡ repeated_tree item_tree (items-the_row-Item n row)
unfolding item_tree repeated_tree
item_row_is end_of-Item = refl
item_row_is (more_of-Item item rest) = ap (λ (t : Tree). turn (item_tree item) t) (item_row_is rest)

pub item_row_of : (xs : Vec Item) → item_row (hidden-the_row-Item-0 xs) ≡ repeated_tree item_tree xs.items
item_row_of xs = item_row_is (hidden-the_row-Item-0 xs) ∙ ap (repeated_tree item_tree) (items_hidden-the_row-Item-0 xs)

case_generate_item_trees_are : {n : _} (row : Row_of-CaseGenerateItem n) → case_generate_item_trees row ≡ map case_generate_item_tree (items-the_row-CaseGenerateItem n row)
unfolding item_tree
case_generate_item_trees_are end_of-CaseGenerateItem = refl
case_generate_item_trees_are (more_of-CaseGenerateItem item rest) = ap (λ (ts : List Tree). case_generate_item_tree item ∷ ts) (case_generate_item_trees_are rest)

case_generate_item_trees_of : (xs : Vec CaseGenerateItem) → case_generate_item_trees (hidden-the_row-CaseGenerateItem-1 xs) ≡ map case_generate_item_tree xs.items
case_generate_item_trees_of xs = case_generate_item_trees_are (hidden-the_row-CaseGenerateItem-1 xs) ∙ ap (map case_generate_item_tree) (items_hidden-the_row-CaseGenerateItem-1 xs)

pub case_generate_items_first : (xs : Vec CaseGenerateItem) → first_of (case_generate_item_trees (hidden-the_row-CaseGenerateItem-1 xs)) ≡ first_tree case_generate_item_tree xs.items
case_generate_items_first xs = ap first_of (case_generate_item_trees_of xs) ∙ first_map case_generate_item_tree xs.items

pub case_generate_items_others : (xs : Vec CaseGenerateItem) → others_of (case_generate_item_trees (hidden-the_row-CaseGenerateItem-1 xs)) ≡ others_tree case_generate_item_tree xs.items
case_generate_items_others xs = ap others_of (case_generate_item_trees_of xs) ∙ others_map case_generate_item_tree xs.items

-- ---- item

pub empty_item : (semicolon : ℕ) → item_tree (is_item.Empty semicolon) ≡ way 0 (leaf semicolon)
unfolding item_tree
empty_item semicolon = refl

pub import_item : (declaration : Box Import) → item_tree (is_item.Import declaration) ≡ way 1 (import_tree declaration.value)
unfolding item_tree
import_item declaration = refl

pub parameters_item : (declaration : Box Parameters) → item_tree (is_item.Parameters declaration) ≡ way 2 (parameters_tree declaration.value)
unfolding item_tree
parameters_item declaration = refl

pub typedef_item : (declaration : Box Typedef) → item_tree (is_item.Typedef declaration) ≡ way 3 (typedef_tree declaration.value)
unfolding item_tree
typedef_item declaration = refl

pub function_item : (function : Box Func) → item_tree (is_item.Function function) ≡ way 4 (func_tree function.value)
unfolding item_tree
function_item function = refl

pub genvars_item : (declaration : Box GenvarDeclaration) → item_tree (is_item.Genvars declaration) ≡ way 5 (genvar_declaration_tree declaration.value)
unfolding item_tree
genvars_item declaration = refl

pub net_item : (declaration : Box NetDeclaration) → item_tree (is_item.Net declaration) ≡ way 6 (net_declaration_tree declaration.value)
unfolding item_tree
net_item declaration = refl

pub variable_item : (declaration : Box VariableDeclaration) → item_tree (is_item.Variable declaration) ≡ way 7 (variable_declaration_tree declaration.value)
unfolding item_tree
variable_item declaration = refl

pub data_item : (declaration : Box DataDeclaration) → item_tree (is_item.Data declaration) ≡ data_item_tree declaration.value.data_type declaration.value.declarators declaration.value.semicolon
unfolding item_tree
data_item declaration = refl

pub assign_item : (assignments : Box ContinuousAssign) → item_tree (is_item.Assign assignments) ≡ way 9 (continuous_assign_tree assignments.value)
unfolding item_tree
assign_item assignments = refl

pub clocked_item : (procedure : Box ClockedProcedure) → item_tree (is_item.Clocked procedure) ≡ way 10 (clocked_procedure_tree procedure.value)
unfolding item_tree
clocked_item procedure = refl

pub plain_item : (procedure : Box PlainProcedure) → item_tree (is_item.Plain procedure) ≡ way 11 (plain_procedure_tree procedure.value)
unfolding item_tree
plain_item procedure = refl

pub region_item : (region : Box GenerateRegion) → item_tree (is_item.Region region) ≡ way 12 (generate_region_tree region.value)
unfolding item_tree
region_item region = ap (λ (t : Tree). way 12 (leaf region.value.keyword ▸ t ▸ leaf region.value.end)) (item_row_of region.value.items)

pub loop_generate_item : (construct : Box LoopGenerate) → item_tree (is_item.LoopGenerate construct) ≡ way 13 (loop_generate_tree construct.value)
unfolding item_tree
loop_generate_item construct = refl

pub if_generate_item : (construct : Box IfGenerate) → item_tree (is_item.IfGenerate construct) ≡ way 14 (if_generate_tree construct.value)
unfolding item_tree
if_generate_item construct = refl

pub case_generate_item : (construct : Box CaseGenerate) → item_tree (is_item.CaseGenerate construct) ≡ way 15 (case_generate_tree construct.value)
unfolding item_tree
case_generate_item construct = rw (case_generate_items_first construct.value.items, case_generate_items_others construct.value.items) refl

pub modports_item : (declaration : Box ModportDeclaration) → item_tree (is_item.Modports declaration) ≡ way 16 (modport_declaration_tree declaration.value)
unfolding item_tree
modports_item declaration = refl

pub system_task_item : (task : Box SystemTask) → item_tree (is_item.SystemTask task) ≡ way 17 (system_task_tree task.value)
unfolding item_tree
system_task_item task = refl

pub instances_item : (instantiation : Box Instantiation) → item_tree (is_item.Instances instantiation) ≡ final 18 (instantiation_tree instantiation.value)
unfolding item_tree
instances_item instantiation = refl

-- ---- what stands behind the name of a type

pub plain_named_data : (row : Row InitializedDeclarator ℕ) (semicolon : ℕ) → named_data_tree [] row semicolon ≡ final 3 (first_declarator (λ (d : Declarator). leaf d.name) row ▸ right (first_declarator (λ (d : Declarator). repeated_tree dimension_tree d.dimensions.items) row ▸ declaration_end_tree row ▸ leaf semicolon))
unfolding named_data_tree
plain_named_data row semicolon = refl

pub ranged_named_data : (first : Dimension) (dimensions : List Dimension) (row : Row InitializedDeclarator ℕ) (semicolon : ℕ) → BeginsWith first dimensions → named_data_tree dimensions row semicolon ≡ way 2 (dimension_tree first ▸ others_tree dimension_tree dimensions ▸ first_declarator declarator_tree row ▸ declaration_end_tree row ▸ leaf semicolon)
unfolding named_data_tree others_tree BeginsWith
ranged_named_data first dimensions row semicolon h = rw h.1 refl

-- ---- generate block

pub block_generate_block : (block : Box GenerateBody) → generate_block_tree (is_generate_block.Block block) ≡ left (generate_body_tree block.value)
unfolding item_tree
block_generate_block block = rw (item_row_of block.value.items) refl

pub item_generate_block : (item : Box Item) → generate_block_tree (is_generate_block.Item item) ≡ right (item_tree item.value)
unfolding item_tree
item_generate_block item = refl

-- ---- if generate

pub if_generate_made : (keyword : ℕ) (condition : Parenthesized) (chosen : GenerateBlock) (otherwise : Option ElseGenerate) → if_generate_tree (roll-IfGenerate (record { keyword = keyword; condition = condition; chosen = chosen; otherwise = otherwise })) ≡ leaf keyword ▸ parenthesized_tree condition ▸ generate_block_tree chosen ▸ optional_tree else_generate_tree otherwise
unfolding item_tree roll-IfGenerate roll
if_generate_made keyword condition chosen None = refl
if_generate_made keyword condition chosen (Some otherwise) = refl

-- ---- case generate item

pub default_case_generate_item : (keyword : ℕ) (colon : Option ℕ) (block : GenerateBlock) → case_generate_item_tree (is_case_generate_item.Default keyword colon block) ≡ left (leaf keyword ▸ optional_tree leaf colon ▸ generate_block_tree block)
unfolding item_tree
default_case_generate_item keyword colon block = refl

pub labels_case_generate_item : (labels : Row Expr ℕ) (colon : ℕ) (block : GenerateBlock) → case_generate_item_tree (is_case_generate_item.Labels labels colon block) ≡ right (row_first (tree_at 13) labels ▸ row_rest (tree_at 13) leaf labels ▸ leaf colon ▸ generate_block_tree block)
unfolding item_tree
labels_case_generate_item labels colon block = refl
