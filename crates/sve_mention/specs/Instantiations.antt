-- Which modules and interfaces an element instantiates (IEEE 1800-2017, 23.3.2 and clause 27).
use Rattle.std.specs.Global.{Box}
use Rattle.std.specs.Prelude.{ℕ, ◌≡◌, List, [], ◌∷◌, ◌++◌, Option, Some, None}
use Rattle.std.specs.List.{Any, Contains, flat_map}
use Rattle.sve_tree.specs.declared.element.Element.{Element}
use Rattle.sve_tree.specs.declared.element.Design.{Design}
use Rattle.sve_tree.specs.declared.item.Item.{Item}
use Rattle.sve_tree.specs.declared.item.Instantiation.{Instantiation}
use Rattle.sve_tree.specs.declared.item.GenerateRegion.{items-the_row-Item}
use Rattle.sve_tree.specs.declared.item.GenerateBlock.{GenerateBlock}
use Rattle.sve_tree.specs.declared.item.IfGenerate.{IfGenerate, IfGenerate', Held-IfGenerate-otherwise, None', Some'}
use Rattle.sve_tree.specs.declared.item.CaseGenerate.{items-the_row-CaseGenerateItem}
use Rattle.sve_tree.specs.declared.item.CaseGenerateItem.{CaseGenerateItem}
use Rattle.sve_tree.specs.declared.element.Design.TheVariants as is_design
use Rattle.sve_tree.specs.declared.item.Item.TheVariants as is_item
use Rattle.sve_tree.specs.declared.item.GenerateBlock.TheVariants as is_generate_block
use Rattle.sve_tree.specs.declared.item.CaseGenerateItem.TheVariants as is_case_generate_item

-- the items of a block of a generate construct
abbrev pub block_items : GenerateBlock → List Item
block_items (is_generate_block.Block' _ begin label _ items end last) = items-the_row-Item _ items
block_items (is_generate_block.Item' _ item) = item ∷ []

abbrev pub else_items : Held-IfGenerate-otherwise → List Item
else_items None' = []
else_items (Some' keyword block) = block_items block

abbrev pub branch_items : IfGenerate → List Item
branch_items (IfGenerate' keyword condition chosen otherwise) = block_items chosen ++ else_items otherwise

abbrev pub choice_items : CaseGenerateItem → List Item
choice_items (is_case_generate_item.Default keyword colon block) = block_items block
choice_items (is_case_generate_item.Labels labels colon block) = block_items block

-- the items that stand directly in an item: those of a region, and those of each block of a generate construct, selected or not
abbrev pub items_within : Item → List Item
items_within (is_item.Region' _ keyword _ items end) = items-the_row-Item _ items
items_within (is_item.LoopGenerate' _ keyword opening genvar name equals start first_semicolon condition second_semicolon step closing block) = block_items block
items_within (is_item.IfGenerate' _ construct) = branch_items construct
items_within (is_item.CaseGenerate' _ keyword selector _ items end) = flat_map choice_items (items-the_row-CaseGenerateItem _ items)
items_within item = []

-- An item instantiates what is named by a token: it is an instantiation that begins with this token, or an item that stands in it
-- instantiates that.
pub data Instantiates (definition : ℕ) : Item → Type 0 where
  itself : (instantiation : Box Instantiation) → instantiation.value.definition ≡ definition → Instantiates definition (is_item.Instances instantiation)
  within : {outer inner : Item} → Contains (items_within outer) inner → Instantiates definition inner → Instantiates definition outer

-- the items of a module or an interface; those of a package and of the compilation unit's scope are no instantiations and hold none
abbrev pub design_items : Option Design → List Item
design_items None = []
design_items (Some (is_design.Module keyword definition)) = definition.value.items.items
design_items (Some (is_design.Interface keyword definition)) = definition.value.items.items
design_items (Some (is_design.Package unit)) = []

-- an element instantiates what is named by a token: an item of its module or interface does
abbrev pub ElementInstantiates : Element → ℕ → Type 0
ElementInstantiates element definition = Any (Instantiates definition) (design_items element.design)
