-- Generate constructs and their blocks, as they are gone over part by part (IEEE 1800-2017, clause 27).
use Rattle.std.specs.Prelude.{ℕ, false, ℤ, List, [], ◌∷◌, Option, Some, None}
use Rattle.sve_tree.specs.declared.item.CaseGenerate.{CaseGenerate}
use Rattle.sve_tree.specs.declared.item.CaseGenerateItem.{CaseGenerateItem}
use Rattle.sve_tree.specs.declared.item.GenerateBlock.{GenerateBlock}
use Rattle.sve_tree.specs.declared.item.GenerateBlock.TheVariants as is_generate_block
use Rattle.sve_tree.specs.declared.item.LoopGenerate.{LoopGenerate}
use Rattle.sve_plan.specs.Plan.{Give, Plan, Spend, each, paid}
use Rattle.sve_look.specs.Questions.{Reply}
use Rattle.sve_body.specs.Steps.{Steps}
use Rattle.sve_body.specs.Body.{block_in, block_of, by_number, case_item_in, item, items_in, loop_in}
use Rattle.sve_body_construct.specs.Parts.{found_item}

-- ---- loops (27.4)

abbrev pub loop_of_construct : {S : Type 0} → Steps S → ℕ → LoopGenerate → S → Plan Reply S
loop_of_construct steps number c s = loop_in steps number c.keyword c.genvar c.name c.start.value c.condition.value c.step c.block s

-- the block of one value
abbrev pub turn_of : {S : Type 0} → Steps S → ℕ → LoopGenerate → ℤ → S → Plan Reply S
turn_of steps number c value s = block_in steps false number (Some (c.name, value)) c.block s

abbrev pub turns_found : {S : Type 0} → Steps S → ℕ → LoopGenerate → Option (List ℤ) → S → Plan Reply S
turns_found steps number c None s = Give s
turns_found steps number c (Some values) s = each (turn_of steps number c) values s

-- ---- conditionals (27.5)

-- the item with a number, from 0; behind the last there is none
unfoldable pub item_at : {S : Type 0} → Steps S → ℕ → Option ℕ → List CaseGenerateItem → S → Plan Reply S
item_at steps number selected [] s = Give s
item_at steps number selected (i ∷ items) s = by_number selected (Give s) (case_item_in steps number i s) (λ further. item_at steps number (Some further) items s)

abbrev pub case_of_construct : {S : Type 0} → Steps S → ℕ → CaseGenerate → S → Plan Reply S
case_of_construct steps number c s = paid (found_item steps c.selector.value.value c.items.items s) (λ r. item_at steps number r.0 c.items.items r.1)

-- ---- blocks (27.3 and 27.6)

-- what stands in a block: items from `begin` to `end`, or one item
abbrev pub contents_of : {S : Type 0} → Steps S → GenerateBlock → S → Plan Reply S
contents_of steps (is_generate_block.Block' _ begin label _ items end last) s = items_in steps items s
contents_of steps (is_generate_block.Item' _ i) s = Spend 1 (item steps None i s)

-- a block in a scope of its own
abbrev pub scoped_block : {S : Type 0} → Steps S → ℕ → Option (ℕ × ℤ) → GenerateBlock → S → Plan Reply S
scoped_block steps number turn block s = block_of steps number turn block (contents_of steps block) s
