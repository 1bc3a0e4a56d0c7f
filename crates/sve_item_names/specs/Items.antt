-- The names that the items of a scope declare, in the order of the text, with those that are seen in the whole scope (IEEE 1800-2017, 23.9 and clause 27).
use Rattle.std.specs.Prelude.{List, [], ◌∷◌, ◌++◌, map, Option, Some, None}
use Rattle.std.specs.List.{flat_map}
use Rattle.sve_tree.specs.declared.word.Label.{Label}
use Rattle.sve_tree.specs.declared.item.Instance.{Instance}
use Rattle.sve_tree.specs.declared.item.Item.{Item}
use Rattle.sve_tree.specs.declared.item.GenerateRegion.{Row_of-Item, end_of-Item, more_of-Item}
use Rattle.sve_tree.specs.declared.item.GenerateBlock.{GenerateBlock}
use Rattle.sve_tree.specs.declared.item.IfGenerate.{IfGenerate, IfGenerate', Held-IfGenerate-otherwise, None', Some'}
use Rattle.sve_tree.specs.declared.item.ElseGenerate.{ElseGenerate}
use Rattle.sve_tree.specs.declared.item.CaseGenerate.{Row_of-CaseGenerateItem, end_of-CaseGenerateItem, more_of-CaseGenerateItem}
use Rattle.sve_tree.specs.declared.item.CaseGenerateItem.{CaseGenerateItem}
use Rattle.sve_tree.specs.declared.item.Item.TheVariants as is_item
use Rattle.sve_tree.specs.declared.item.GenerateBlock.TheVariants as is_generate_block
use Rattle.sve_tree.specs.declared.item.CaseGenerateItem.TheVariants as is_case_generate_item
use Rattle.sve_item_names.specs.declared.name.ItemName.{ItemName}
use Rattle.sve_item_names.specs.declared.name.ItemName.TheVariants as is_name
use Rattle.sve_item_names.specs.Declarations.{declaration_headings}

abbrev pub instance_name : Instance → ItemName
instance_name instance = is_name.Instance instance.name

-- the label of a block, where it has one
abbrev pub label_names : Option Label → List ItemName
label_names None = []
label_names (Some label) = is_name.Block label.name ∷ []

-- the block of a loop is a scope of its own, whatever it holds
abbrev pub loop_block_names : GenerateBlock → List ItemName
loop_block_names (is_generate_block.Block' _ begin label _ items end last) = label_names label
loop_block_names (is_generate_block.Item' _ item) = []

-- Those of regions are declared in the scope itself, as are the labels of the blocks of a construct, selected or not. What stands in a block is declared
-- there; but a conditional that is the whole of a branch without `begin` belongs to the construct around it.
unfoldable mutual
  pub item_names : Item → List ItemName
  item_names (is_item.Region' _ keyword _ items end) = items_names items
  item_names (is_item.LoopGenerate' _ keyword opening genvar name equals start first_semicolon condition second_semicolon step closing block) = loop_block_names block
  item_names (is_item.IfGenerate' _ construct) = if_names construct
  item_names (is_item.CaseGenerate' _ keyword selector _ items end) = case_items_names items
  item_names (is_item.Instances instantiation) = map instance_name instantiation.value.instances.items.items
  item_names item = map is_name.Declared (declaration_headings item)

  pub items_names : {n : _} → Row_of-Item n → List ItemName
  items_names end_of-Item = []
  items_names (more_of-Item item rest) = item_names item ++ items_names rest

  pub block_names : GenerateBlock → List ItemName
  block_names (is_generate_block.Block' _ begin label _ items end last) = label_names label
  block_names (is_generate_block.Item' _ item) = nested_names item

  pub nested_names : Item → List ItemName
  nested_names (is_item.IfGenerate' _ construct) = if_names construct
  nested_names (is_item.CaseGenerate' _ keyword selector _ items end) = case_items_names items
  nested_names item = []

  pub if_names : IfGenerate → List ItemName
  if_names (IfGenerate' keyword condition chosen otherwise) = block_names chosen ++ else_names otherwise

  pub else_names : Held-IfGenerate-otherwise → List ItemName
  else_names None' = []
  else_names (Some' keyword block) = block_names block

  pub case_item_names : CaseGenerateItem → List ItemName
  case_item_names (is_case_generate_item.Default keyword colon block) = block_names block
  case_item_names (is_case_generate_item.Labels labels colon block) = block_names block

  pub case_items_names : {n : _} → Row_of-CaseGenerateItem n → List ItemName
  case_items_names end_of-CaseGenerateItem = []
  case_items_names (more_of-CaseGenerateItem item rest) = case_item_names item ++ case_items_names rest

-- the block behind `else`, where there is one
abbrev pub else_block_names : Option ElseGenerate → List ItemName
else_block_names None = []
else_block_names (Some branch) = block_names branch.block

abbrev pub names_of : List Item → List ItemName
names_of items = flat_map item_names items
