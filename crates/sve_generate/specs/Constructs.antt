-- Generate constructs among the items of a scope (IEEE 1800-2017, 27.3 and 27.5).
use Rattle.std.specs.Prelude.{ℕ, ◌+◌, Bool, true, false, if◌then◌else◌, nat_le, Option, Some, None}
use Rattle.sve_diag.specs.declared.code.Code.TheVariants.{E15}
use Rattle.sve_fault.specs.declared.fault.Fault.{Fault}
use Rattle.sve_fault.specs.Faults.{fault_at}
use Rattle.sve_tree.specs.Items.{generate_block_tree}
use Rattle.sve_tree.specs.Shape.{first_token_of}
use Rattle.sve_tree.specs.declared.item.Item.{Item}
use Rattle.sve_tree.specs.declared.item.GenerateRegion.{Row_of-Item, end_of-Item, more_of-Item}
use Rattle.sve_tree.specs.declared.item.GenerateBlock.{GenerateBlock}
use Rattle.sve_tree.specs.declared.item.Item.TheVariants as is_item
use Rattle.sve_tree.specs.declared.item.GenerateBlock.TheVariants as is_generate_block

-- how many constructs an item is: a loop, an `if` or a `case` is one, and a region has those of its items
unfoldable mutual
  pub constructs : Item → ℕ
  constructs (is_item.Region' _ keyword _ items end) = row_constructs items
  constructs (is_item.LoopGenerate' _ keyword opening genvar name equals start first_semicolon condition second_semicolon step closing block) = 1
  constructs (is_item.IfGenerate' _ construct) = 1
  constructs (is_item.CaseGenerate' _ keyword selector _ items end) = 1
  constructs item = 0

  pub row_constructs : {n : _} → Row_of-Item n → ℕ
  row_constructs end_of-Item = 0
  row_constructs (more_of-Item item rest) = constructs item + row_constructs rest

-- an item that is an `if` or a `case`
unfoldable pub is_conditional : Item → Bool
is_conditional (is_item.IfGenerate' _ construct) = true
is_conditional (is_item.CaseGenerate' _ keyword selector _ items end) = true
is_conditional item = false

-- a block without `begin` that is one
unfoldable pub is_nested_conditional : GenerateBlock → Bool
is_nested_conditional (is_generate_block.Item' _ item) = is_conditional item
is_nested_conditional block = false

-- the token, where there is one
abbrev pub token_or : Option ℕ → ℕ
token_or None = 0
token_or (Some token) = token

-- the first token of a block: `begin`, or that of its item
abbrev pub block_token : GenerateBlock → ℕ
block_token block = token_or (first_token_of (generate_block_tree block))

-- what is said of a block with this first token, which has so many blocks around it: the 33rd of blocks inside one another has no contents (own)
abbrev pub nesting_fault : ℕ → ℕ → Option Fault
nesting_fault around token = if nat_le 32 around then Some (fault_at token E15) else None
