-- What items mention, in the order of the text: the modules and interfaces that they instantiate, and labels of blocks and functions. Every generate block counts, since no condition is looked at (IEEE 1800-2017, 23.3.2 and clause 27).
use Rattle.std.specs.Prelude.{List, [], ◌∷◌, ◌++◌, Option, Some, None}
use Rattle.std.specs.List.{flat_map}
use Rattle.sve_tree.specs.declared.item.Item.{Item}
use Rattle.sve_tree.specs.declared.item.GenerateRegion.{Row_of-Item, end_of-Item, more_of-Item}
use Rattle.sve_tree.specs.declared.item.GenerateBlock.{GenerateBlock}
use Rattle.sve_tree.specs.declared.item.GenerateBody.{GenerateBody}
use Rattle.sve_tree.specs.declared.item.IfGenerate.{IfGenerate, IfGenerate', Held-IfGenerate-otherwise, None', Some'}
use Rattle.sve_tree.specs.declared.item.ElseGenerate.{ElseGenerate}
use Rattle.sve_tree.specs.declared.item.CaseGenerate.{Row_of-CaseGenerateItem, end_of-CaseGenerateItem, more_of-CaseGenerateItem}
use Rattle.sve_tree.specs.declared.item.CaseGenerateItem.{CaseGenerateItem}
use Rattle.sve_tree.specs.declared.item.Item.TheVariants as is_item
use Rattle.sve_tree.specs.declared.item.GenerateBlock.TheVariants as is_generate_block
use Rattle.sve_tree.specs.declared.item.CaseGenerateItem.TheVariants as is_case_generate_item
use Rattle.sve_mention.specs.declared.mention.Mention.{Mention}
use Rattle.sve_mention.specs.declared.mention.Mention.TheVariants.{Instance}
use Rattle.sve_mention.specs.Labels.{end_label, label_name}
use Rattle.sve_mention.specs.InStatements.{statement_mentions, function_mentions}

unfoldable mutual
  pub item_mentions : Item → List Mention
  item_mentions (is_item.Function function) = function_mentions function.value
  item_mentions (is_item.Clocked procedure) = statement_mentions procedure.value.statement.value
  item_mentions (is_item.Plain procedure) = statement_mentions procedure.value.statement.value
  item_mentions (is_item.Region' _ keyword _ items end) = items_mentions items
  item_mentions (is_item.LoopGenerate' _ keyword opening genvar name equals start first_semicolon condition second_semicolon step closing block) = generate_block_mentions block
  item_mentions (is_item.IfGenerate' _ construct) = if_generate_mentions construct
  item_mentions (is_item.CaseGenerate' _ keyword selector _ items end) = case_generate_items_mentions items
  item_mentions (is_item.Instances instantiation) = Instance instantiation.value.definition ∷ []
  item_mentions item = []

  pub generate_block_mentions : GenerateBlock → List Mention
  generate_block_mentions (is_generate_block.Block' _ begin label _ items end last) = items_mentions items ++ end_label (label_name label) last
  generate_block_mentions (is_generate_block.Item' _ item) = item_mentions item

  pub if_generate_mentions : IfGenerate → List Mention
  if_generate_mentions (IfGenerate' keyword condition chosen otherwise) = generate_block_mentions chosen ++ else_generate_mentions otherwise

  pub else_generate_mentions : Held-IfGenerate-otherwise → List Mention
  else_generate_mentions None' = []
  else_generate_mentions (Some' keyword block) = generate_block_mentions block

  pub case_generate_item_mentions : CaseGenerateItem → List Mention
  case_generate_item_mentions (is_case_generate_item.Default keyword colon block) = generate_block_mentions block
  case_generate_item_mentions (is_case_generate_item.Labels labels colon block) = generate_block_mentions block

  pub items_mentions : {n : _} → Row_of-Item n → List Mention
  items_mentions end_of-Item = []
  items_mentions (more_of-Item item rest) = item_mentions item ++ items_mentions rest

  pub case_generate_items_mentions : {n : _} → Row_of-CaseGenerateItem n → List Mention
  case_generate_items_mentions end_of-CaseGenerateItem = []
  case_generate_items_mentions (more_of-CaseGenerateItem item rest) = case_generate_item_mentions item ++ case_generate_items_mentions rest

abbrev pub generate_body_mentions : GenerateBody → List Mention
generate_body_mentions body = flat_map item_mentions body.items.items ++ end_label (label_name body.label) body.end_label

-- the block behind `else`, where there is one
abbrev pub else_block_mentions : Option ElseGenerate → List Mention
else_block_mentions None = []
else_block_mentions (Some branch) = generate_block_mentions branch.block
