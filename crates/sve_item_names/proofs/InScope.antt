-- What each item declares in its scope, as its fields are seen from outside.
use Rattle.std.specs.Global.{Box, Vec}
use Rattle.std.proofs.Common.{ℕ, List, [], ◌++◌, Option, ◌≡◌, refl, ap, ◌∙◌}
use Rattle.std.specs.List.{flat_map}
use Rattle.sve_tree.specs.declared.row.Row.{Row}
use Rattle.sve_tree.specs.declared.expression.Expr.{Expr}
use Rattle.sve_tree.specs.declared.item.Item.{Item}
use Rattle.sve_tree.specs.declared.item.GenerateRegion.{GenerateRegion, Row_of-Item, end_of-Item, items-the_row-Item, more_of-Item}
use Rattle.sve_tree.specs.declared.item.GenerateBlock.{GenerateBlock}
use Rattle.sve_tree.specs.declared.item.GenerateBody.{GenerateBody}
use Rattle.sve_tree.specs.declared.item.LoopGenerate.{LoopGenerate}
use Rattle.sve_tree.specs.declared.item.IfGenerate.{IfGenerate, IfGenerate', None', Some', out-IfGenerate}
use Rattle.sve_tree.specs.declared.item.CaseGenerate.{CaseGenerate, Row_of-CaseGenerateItem, end_of-CaseGenerateItem, items-the_row-CaseGenerateItem, more_of-CaseGenerateItem}
use Rattle.sve_tree.specs.declared.item.CaseGenerateItem.{CaseGenerateItem}
use Rattle.sve_tree.specs.declared.item.CaseGenerateItem.TheBlock.{hidden-the_row-CaseGenerateItem-1, hidden-the_row-Item-0, items_hidden-the_row-CaseGenerateItem-1, items_hidden-the_row-Item-0}
use Rattle.sve_tree.specs.declared.item.Item.TheVariants as is_item
use Rattle.sve_tree.specs.declared.item.GenerateBlock.TheVariants as is_generate_block
use Rattle.sve_tree.specs.declared.item.CaseGenerateItem.TheVariants as is_case_generate_item
use denote.Hole.Carrier.{out}
use Rattle.sve_item_names.specs.declared.name.ItemName.{ItemName}
use Rattle.sve_item_names.specs.Items.{block_names, case_item_names, case_items_names, else_block_names, if_names, item_names, items_names, label_names, loop_block_names, nested_names}

-- ---- rows

items_are : {n : _} (row : Row_of-Item n) → items_names row ≡ flat_map item_names (items-the_row-Item n row)
unfolding item_names
items_are end_of-Item = refl
items_are (more_of-Item item rest) = ap (λ (ns : List ItemName). item_names item ++ ns) (items_are rest)

case_items_are : {n : _} (row : Row_of-CaseGenerateItem n) → case_items_names row ≡ flat_map case_item_names (items-the_row-CaseGenerateItem n row)
unfolding item_names
case_items_are end_of-CaseGenerateItem = refl
case_items_are (more_of-CaseGenerateItem item rest) = ap (λ (ns : List ItemName). case_item_names item ++ ns) (case_items_are rest)

case_items_of : (xs : Vec CaseGenerateItem) → case_items_names (hidden-the_row-CaseGenerateItem-1 xs) ≡ flat_map case_item_names xs.items
case_items_of xs = case_items_are (hidden-the_row-CaseGenerateItem-1 xs) ∙ ap (flat_map case_item_names) (items_hidden-the_row-CaseGenerateItem-1 xs)

-- ---- items

pub of_region : (region : Box GenerateRegion) → item_names (is_item.Region region) ≡ flat_map item_names region.value.items.items
unfolding item_names
of_region region = items_are (hidden-the_row-Item-0 region.value.items) ∙ ap (flat_map item_names) (items_hidden-the_row-Item-0 region.value.items)

pub of_loop : (construct : Box LoopGenerate) → item_names (is_item.LoopGenerate construct) ≡ loop_block_names construct.value.block
unfolding item_names
of_loop construct = refl

pub of_if : (construct : Box IfGenerate) → item_names (is_item.IfGenerate construct) ≡ if_names construct.value
unfolding item_names
of_if construct = refl

pub of_case : (construct : Box CaseGenerate) → item_names (is_item.CaseGenerate construct) ≡ flat_map case_item_names construct.value.items.items
unfolding item_names
of_case construct = case_items_of construct.value.items

-- ---- blocks

pub of_loop_body : (block : Box GenerateBody) → loop_block_names (is_generate_block.Block block) ≡ label_names block.value.label
of_loop_body block = refl

pub of_loop_item : (item : Box Item) → loop_block_names (is_generate_block.Item item) ≡ []
of_loop_item item = refl

pub of_body : (block : Box GenerateBody) → block_names (is_generate_block.Block block) ≡ label_names block.value.label
unfolding item_names
of_body block = refl

pub of_item : (item : Box Item) → block_names (is_generate_block.Item item) ≡ nested_names item.value
unfolding item_names
of_item item = refl

pub of_nested_if : (construct : Box IfGenerate) → nested_names (is_item.IfGenerate construct) ≡ if_names construct.value
unfolding item_names
of_nested_if construct = refl

pub of_nested_case : (construct : Box CaseGenerate) → nested_names (is_item.CaseGenerate construct) ≡ flat_map case_item_names construct.value.items.items
unfolding item_names
of_nested_case construct = case_items_of construct.value.items

pub of_default : (keyword : ℕ) (colon : Option ℕ) (block : GenerateBlock) → case_item_names (is_case_generate_item.Default keyword colon block) ≡ block_names block
unfolding item_names
of_default keyword colon block = refl

pub of_labels : (labels : Row Expr ℕ) (colon : ℕ) (block : GenerateBlock) → case_item_names (is_case_generate_item.Labels labels colon block) ≡ block_names block
unfolding item_names
of_labels labels colon block = refl

pub of_branches : (construct : IfGenerate) → if_names construct ≡ block_names (out-IfGenerate construct).chosen ++ else_block_names (out-IfGenerate construct).otherwise
unfolding item_names out-IfGenerate out
of_branches (IfGenerate' keyword condition chosen None') = refl
of_branches (IfGenerate' keyword condition chosen (Some' keyword_2 block)) = refl
