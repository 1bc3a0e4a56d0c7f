-- What each item mentions, as its fields are seen from outside.
use Rattle.std.specs.Global.{Box, Vec}
use Rattle.std.proofs.Common.{ℕ, List, [], ◌∷◌, ◌++◌, Option, ◌≡◌, refl, ap, ◌∙◌}
use Rattle.std.specs.List.{flat_map}
use Rattle.sve_tree.specs.declared.row.Row.{Row}
use Rattle.sve_tree.specs.declared.item.GenvarDeclaration.{GenvarDeclaration}
use Rattle.sve_tree.specs.declared.item.ContinuousAssign.{ContinuousAssign}
use Rattle.sve_tree.specs.declared.item.ModportDeclaration.{ModportDeclaration}
use Rattle.sve_tree.specs.declared.statement.SystemTask.{SystemTask}
use Rattle.sve_tree.specs.declared.declaration.Import.{Import}
use Rattle.sve_tree.specs.declared.declaration.NetDeclaration.{NetDeclaration}
use Rattle.sve_tree.specs.declared.declaration.DataDeclaration.{DataDeclaration}
use Rattle.sve_tree.specs.declared.declaration.VariableDeclaration.{VariableDeclaration}
use Rattle.sve_tree.specs.declared.declaration.Parameters.{Parameters}
use Rattle.sve_tree.specs.declared.declaration.Typedef.{Typedef}
use Rattle.sve_tree.specs.declared.expression.Expr.{Expr}
use Rattle.sve_tree.specs.declared.statement.Func.{Func}
use Rattle.sve_tree.specs.declared.item.Item.{Item}
use Rattle.sve_tree.specs.declared.item.ClockedProcedure.{ClockedProcedure}
use Rattle.sve_tree.specs.declared.item.PlainProcedure.{PlainProcedure}
use Rattle.sve_tree.specs.declared.item.GenerateRegion.{GenerateRegion, Row_of-Item, end_of-Item, items-the_row-Item, more_of-Item}
use Rattle.sve_tree.specs.declared.item.GenerateBlock.{GenerateBlock}
use Rattle.sve_tree.specs.declared.item.GenerateBody.{GenerateBody}
use Rattle.sve_tree.specs.declared.item.LoopGenerate.{LoopGenerate}
use Rattle.sve_tree.specs.declared.item.IfGenerate.{IfGenerate, IfGenerate', None', Some', out-IfGenerate}
use Rattle.sve_tree.specs.declared.item.CaseGenerate.{CaseGenerate, Row_of-CaseGenerateItem, end_of-CaseGenerateItem, items-the_row-CaseGenerateItem, more_of-CaseGenerateItem}
use Rattle.sve_tree.specs.declared.item.CaseGenerateItem.{CaseGenerateItem}
use Rattle.sve_tree.specs.declared.item.Instantiation.{Instantiation}
use Rattle.sve_tree.specs.declared.item.CaseGenerateItem.TheBlock.{hidden-the_row-CaseGenerateItem-1, hidden-the_row-Item-0, items_hidden-the_row-CaseGenerateItem-1, items_hidden-the_row-Item-0}
use Rattle.sve_tree.specs.declared.item.Item.TheVariants as is_item
use Rattle.sve_tree.specs.declared.item.GenerateBlock.TheVariants as is_generate_block
use Rattle.sve_tree.specs.declared.item.CaseGenerateItem.TheVariants as is_case_generate_item
use denote.Hole.Carrier.{out}
use Rattle.sve_mention.specs.declared.mention.Mention.{Mention}
use Rattle.sve_mention.specs.declared.mention.Mention.TheVariants.{Instance}
use Rattle.sve_mention.specs.Labels.{end_label, label_name}
use Rattle.sve_mention.specs.InStatements.{statement_mentions, function_mentions}
use Rattle.sve_mention.specs.InItems.{item_mentions, generate_block_mentions, if_generate_mentions, case_generate_item_mentions, items_mentions, case_generate_items_mentions, generate_body_mentions, else_block_mentions}

-- ---- rows

pub items_are : {n : _} (row : Row_of-Item n) → items_mentions row ≡ flat_map item_mentions (items-the_row-Item n row)
unfolding item_mentions
items_are end_of-Item = refl
items_are (more_of-Item item rest) = ap (λ (ms : List Mention). item_mentions item ++ ms) (items_are rest)

items_of : (xs : Vec Item) → items_mentions (hidden-the_row-Item-0 xs) ≡ flat_map item_mentions xs.items
items_of xs = items_are (hidden-the_row-Item-0 xs) ∙ ap (flat_map item_mentions) (items_hidden-the_row-Item-0 xs)

pub case_items_are : {n : _} (row : Row_of-CaseGenerateItem n) → case_generate_items_mentions row ≡ flat_map case_generate_item_mentions (items-the_row-CaseGenerateItem n row)
unfolding item_mentions
case_items_are end_of-CaseGenerateItem = refl
case_items_are (more_of-CaseGenerateItem item rest) = ap (λ (ms : List Mention). case_generate_item_mentions item ++ ms) (case_items_are rest)

case_items_of : (xs : Vec CaseGenerateItem) → case_generate_items_mentions (hidden-the_row-CaseGenerateItem-1 xs) ≡ flat_map case_generate_item_mentions xs.items
case_items_of xs = case_items_are (hidden-the_row-CaseGenerateItem-1 xs) ∙ ap (flat_map case_generate_item_mentions) (items_hidden-the_row-CaseGenerateItem-1 xs)

-- ---- items

pub of_function : (function : Box Func) → item_mentions (is_item.Function function) ≡ function_mentions function.value
unfolding item_mentions
of_function function = refl

pub of_clocked : (procedure : Box ClockedProcedure) → item_mentions (is_item.Clocked procedure) ≡ statement_mentions procedure.value.statement.value
unfolding item_mentions
of_clocked procedure = refl

pub of_plain : (procedure : Box PlainProcedure) → item_mentions (is_item.Plain procedure) ≡ statement_mentions procedure.value.statement.value
unfolding item_mentions
of_plain procedure = refl

pub of_region : (region : Box GenerateRegion) → item_mentions (is_item.Region region) ≡ flat_map item_mentions region.value.items.items
unfolding item_mentions
of_region region = items_of region.value.items

pub of_loop : (construct : Box LoopGenerate) → item_mentions (is_item.LoopGenerate construct) ≡ generate_block_mentions construct.value.block
unfolding item_mentions
of_loop construct = refl

pub of_if : (construct : Box IfGenerate) → item_mentions (is_item.IfGenerate construct) ≡ if_generate_mentions construct.value
unfolding item_mentions
of_if construct = refl

pub of_case : (construct : Box CaseGenerate) → item_mentions (is_item.CaseGenerate construct) ≡ flat_map case_generate_item_mentions construct.value.items.items
unfolding item_mentions
of_case construct = case_items_of construct.value.items

pub of_instances : (instantiation : Box Instantiation) → item_mentions (is_item.Instances instantiation) ≡ Instance instantiation.value.definition ∷ []
unfolding item_mentions
of_instances instantiation = refl

-- items without an item of their own
pub of_empty : (semicolon : ℕ) → item_mentions (is_item.Empty semicolon) ≡ []
unfolding item_mentions
of_empty semicolon = refl

pub of_import : (declaration : Box Import) → item_mentions (is_item.Import declaration) ≡ []
unfolding item_mentions
of_import declaration = refl

pub of_parameters : (declaration : Box Parameters) → item_mentions (is_item.Parameters declaration) ≡ []
unfolding item_mentions
of_parameters declaration = refl

pub of_typedef : (declaration : Box Typedef) → item_mentions (is_item.Typedef declaration) ≡ []
unfolding item_mentions
of_typedef declaration = refl

pub of_genvars : (declaration : Box GenvarDeclaration) → item_mentions (is_item.Genvars declaration) ≡ []
unfolding item_mentions
of_genvars declaration = refl

pub of_net : (declaration : Box NetDeclaration) → item_mentions (is_item.Net declaration) ≡ []
unfolding item_mentions
of_net declaration = refl

pub of_variable : (declaration : Box VariableDeclaration) → item_mentions (is_item.Variable declaration) ≡ []
unfolding item_mentions
of_variable declaration = refl

pub of_data : (declaration : Box DataDeclaration) → item_mentions (is_item.Data declaration) ≡ []
unfolding item_mentions
of_data declaration = refl

pub of_assign : (assignments : Box ContinuousAssign) → item_mentions (is_item.Assign assignments) ≡ []
unfolding item_mentions
of_assign assignments = refl

pub of_modports : (declaration : Box ModportDeclaration) → item_mentions (is_item.Modports declaration) ≡ []
unfolding item_mentions
of_modports declaration = refl

pub of_system_task : (task : Box SystemTask) → item_mentions (is_item.SystemTask task) ≡ []
unfolding item_mentions
of_system_task task = refl

-- ---- their parts

pub of_body : (block : Box GenerateBody) → generate_block_mentions (is_generate_block.Block block) ≡ generate_body_mentions block.value
unfolding item_mentions
of_body block = ap (λ (ms : List Mention). ms ++ end_label (label_name block.value.label) block.value.end_label) (items_of block.value.items)

pub of_item : (item : Box Item) → generate_block_mentions (is_generate_block.Item item) ≡ item_mentions item.value
unfolding item_mentions
of_item item = refl

pub of_default : (keyword : ℕ) (colon : Option ℕ) (block : GenerateBlock) → case_generate_item_mentions (is_case_generate_item.Default keyword colon block) ≡ generate_block_mentions block
unfolding item_mentions
of_default keyword colon block = refl

pub of_labels : (labels : Row Expr ℕ) (colon : ℕ) (block : GenerateBlock) → case_generate_item_mentions (is_case_generate_item.Labels labels colon block) ≡ generate_block_mentions block
unfolding item_mentions
of_labels labels colon block = refl

pub of_branches : (construct : IfGenerate) → if_generate_mentions construct ≡ generate_block_mentions (out-IfGenerate construct).chosen ++ else_block_mentions (out-IfGenerate construct).otherwise
unfolding item_mentions out-IfGenerate out
of_branches (IfGenerate' keyword condition chosen None') = refl
of_branches (IfGenerate' keyword condition chosen (Some' keyword_2 block)) = refl
