-- The elaboration of a body, as a plan (IEEE 1800-2017, clauses 23, 25 and 27; what counts is own). A parameter or a port of the header costs one, an item
-- costs one each time that it is elaborated, a turn of a loop costs one, and so does each node of a constant expression that is evaluated.
use Rattle.std.specs.Prelude.{ℕ, zero, suc, Bool, true, false, if◌then◌else◌, ℤ, List, [], ◌∷◌, Option, Some, None, is_some, Result, Ok, Err}
use Rattle.std.specs.List.{flat_map}
use Rattle.sve_fault.specs.declared.fault.Fault.{Fault}
use Rattle.sve_tree.specs.declared.word.Label.{Label}
use Rattle.sve_tree.specs.declared.expression.Expr.{Expr}
use Rattle.sve_tree.specs.declared.header.Header.{Header}
use Rattle.sve_tree.specs.declared.item.GenvarStep.{GenvarStep}
use Rattle.sve_tree.specs.declared.item.Item.{Item}
use Rattle.sve_tree.specs.declared.item.GenerateRegion.{Row_of-Item, end_of-Item, more_of-Item}
use Rattle.sve_tree.specs.declared.item.GenerateBlock.{GenerateBlock}
use Rattle.sve_tree.specs.declared.item.IfGenerate.{IfGenerate, IfGenerate', Held-IfGenerate-otherwise, None', Some'}
use Rattle.sve_tree.specs.declared.item.CaseGenerate.{Row_of-CaseGenerateItem, end_of-CaseGenerateItem, more_of-CaseGenerateItem, items-the_row-CaseGenerateItem}
use Rattle.sve_tree.specs.declared.item.CaseGenerateItem.{CaseGenerateItem}
use Rattle.sve_tree.specs.declared.item.Item.TheVariants as is_item
use Rattle.sve_tree.specs.declared.item.GenerateBlock.TheVariants as is_generate_block
use Rattle.sve_tree.specs.declared.item.CaseGenerateItem.TheVariants as is_case_generate_item
use Rattle.sve_env.specs.Nodes.{nodes}
use Rattle.sve_measure.specs.Constants.{measured}
use Rattle.sve_generate.specs.Constructs.{block_token, is_conditional, nesting_fault}
use Rattle.sve_choice.specs.Conditions.{faults_in, holds}
use Rattle.sve_choice.specs.Labels.{case_nodes, chosen}
use Rattle.sve_item_names.specs.declared.name.ItemName.{ItemName}
use Rattle.sve_item_names.specs.declared.name.ItemName.TheVariants as is_name
use Rattle.sve_item_names.specs.Items.{case_items_names, if_names, loop_block_names}
use Rattle.sve_plan.specs.Plan.{Counted, Give, Plan, Spend, and_then, each, paid}
use Rattle.sve_look.specs.Questions.{Reply}
use Rattle.sve_body.specs.Steps.{Steps}
use Rattle.sve_body.specs.Loops.{loop_values}
use Rattle.sve_body.specs.Items.{assignment, done, header, instances, plain_item, say_all}

-- ---- constructs (27.6)

-- the number of a construct: that of the construct around it, of which it is a part, or the next one of its scope
abbrev pub number_in : {S : Type 0} → Steps S → Option ℕ → S → ℕ
number_in steps None s = steps.next_number s
number_in steps (Some number) s = number

abbrev pub fault_list : Option Fault → List Fault
fault_list None = []
fault_list (Some fault) = fault ∷ []

-- what is wrong with the labels of a construct, selected or not
abbrev pub label_fault_of : {S : Type 0} → Steps S → ℕ → S → ItemName → List Fault
label_fault_of steps number s (is_name.Block token) = fault_list (steps.label_fault number token s)
label_fault_of steps number s name = []

-- A construct begins: it is counted and its labels are judged, unless it is a part of the one around it.
abbrev pub begun : {S : Type 0} → Steps S → Option ℕ → List ItemName → S → S
begun steps None names s = say_all steps (flat_map (label_fault_of steps (steps.next_number s) s) names) (steps.count_construct names s)
begun steps (Some number) names s = s

-- ---- blocks

-- the label of a block behind its `begin`; a block of one item has none
abbrev pub block_label : GenerateBlock → Option Label
block_label (is_generate_block.Block' _ begin label _ items end last) = label
block_label (is_generate_block.Item' _ i) = None

-- a block whose label is declared otherwise is not made
abbrev pub label_is_wrong : {S : Type 0} → Steps S → ℕ → Option Label → S → Bool
label_is_wrong steps number None s = false
label_is_wrong steps number (Some label) s = is_some (steps.label_fault number label.name s)

-- the 33rd block inside one another is there and has no contents
abbrev pub block_within : {S : Type 0} → Steps S → Option Fault → (S → Plan Reply S) → S → Plan Reply S
block_within steps (Some fault) contents s = Give (steps.leave (steps.say fault s))
block_within steps None contents s = and_then (contents s) (λ t. Give (steps.leave t))

-- a block is entered, and left behind its contents
abbrev pub block_of : {S : Type 0} → Steps S → ℕ → Option (ℕ × ℤ) → GenerateBlock → (S → Plan Reply S) → S → Plan Reply S
block_of steps number turn block contents s =
    if label_is_wrong steps number (block_label block) s then Give s else block_within steps (nesting_fault (steps.depth s) (block_token block)) contents (steps.enter number turn block s)

-- a loop with a fault has no scope
abbrev pub turns_of : {S : Type 0} → Steps S → (ℤ → S → Plan Reply S) → Result (List ℤ) Fault → S → Plan Reply S
turns_of steps turn (Ok values) s = each turn values s
turns_of steps turn (Err fault) s = Give (steps.say fault s)

abbrev pub loop_of : {S : Type 0} → Steps S → Option Fault → Counted (Result (List ℤ) Fault) → (ℤ → S → Plan Reply S) → S → Plan Reply S
loop_of steps (Some fault) values turn s = Give (steps.say fault s)
loop_of steps None values turn s = paid values (λ result. turns_of steps turn result s)

-- an item that is the whole of a branch, and a part of the construct around it (27.5)
abbrev pub is_part : Bool → Item → Bool
is_part nests i = if nests then is_conditional i else false

-- none, the first, or one further on
abbrev pub by_number : {Y : Type 0} → Option ℕ → Y → Y → (ℕ → Y) → Y
by_number None none first further = none
by_number (Some zero) none first further = first
by_number (Some (suc number)) none first further = further number

-- a loop where it stands, by what each of its values does
abbrev pub loop_from : {S : Type 0} → Steps S → ℕ → Option ℕ → ℕ → Expr → Expr → GenvarStep → (ℤ → S → Plan Reply S) → S → Plan Reply S
loop_from steps keyword genvar name start condition step turn s = loop_of steps (steps.genvar_fault genvar name s) (loop_values (steps.told s) keyword name start condition step) turn s

-- a `case` where it stands, by what follows the number of the item that it selects
abbrev pub selection_from : {S : Type 0} → Steps S → Expr → List CaseGenerateItem → (Option ℕ → S → Plan Reply S) → S → Plan Reply S
selection_from steps selector items go s = paid (case_nodes (steps.told s) selector items, chosen (steps.told s) selector items) (λ r. go r.0 (say_all steps r.1 s))

-- ---- items

unfoldable mutual
  -- An item does this once its one is paid. A construct pays for what it selects by, and then each block that it selects is entered; a conditional that
  -- is the whole of a branch of another one without `begin` has the number of that construct.
  pub item : {S : Type 0} → Steps S → Option ℕ → Item → S → Plan Reply S
  item steps outer (is_item.Assign assignments) s = each (assignment steps) assignments.value.assignments.items.items s
  item steps outer (is_item.Instances instantiation) s = instances steps instantiation.value s
  item steps outer (is_item.Region' _ keyword _ items end) s = items_in steps items s
  item steps outer (is_item.LoopGenerate' _ keyword opening genvar name equals start first_semicolon condition second_semicolon step closing block) s =
      loop_from steps keyword genvar name start.value condition.value step (λ value t. block_in steps false (number_in steps None s) (Some (name, value)) block t) (begun steps None (loop_block_names block) s)
  item steps outer (is_item.IfGenerate' _ construct) s = if_in steps (number_in steps outer s) construct (begun steps outer (if_names construct) s)
  item steps outer (is_item.CaseGenerate' _ keyword selector _ items end) s =
      selection_from steps selector.value.value (items-the_row-CaseGenerateItem _ items) (λ selected t. case_item_at steps (number_in steps outer s) selected items t) (begun steps outer (case_items_names items) s)
  item steps outer i s = done (plain_item steps i s)

  -- each item of a block counts one, each time
  pub items_in : {S : Type 0} {n : _} → Steps S → Row_of-Item n → S → Plan Reply S
  items_in steps end_of-Item s = Give s
  items_in steps (more_of-Item i rest) s = and_then (Spend 1 (item steps None i s)) (λ t. items_in steps rest t)

  -- a block of a construct with this number; of a conditional it may be another conditional
  pub block_in : {S : Type 0} → Steps S → Bool → ℕ → Option (ℕ × ℤ) → GenerateBlock → S → Plan Reply S
  block_in steps nests number turn (is_generate_block.Block' at begin label n items end last) s = block_of steps number turn (is_generate_block.Block' at begin label n items end last) (λ t. items_in steps items t) s
  block_in steps nests number turn (is_generate_block.Item' at i) s =
      if is_part nests i then Spend 1 (item steps (Some number) i s) else block_of steps number turn (is_generate_block.Item' at i) (λ t. Spend 1 (item steps None i t)) s

  -- an unknown condition counts as false
  pub if_in : {S : Type 0} → Steps S → ℕ → IfGenerate → S → Plan Reply S
  if_in steps number (IfGenerate' keyword condition first otherwise) s =
      paid (nodes (steps.told s) condition.value.value, measured (steps.told s) condition.value.value)
      (λ r. if holds r then block_in steps true number None first (say_all steps (faults_in r) s) else else_in steps number otherwise (say_all steps (faults_in r) s))

  pub else_in : {S : Type 0} → Steps S → ℕ → Held-IfGenerate-otherwise → S → Plan Reply S
  else_in steps number None' s = Give s
  else_in steps number (Some' keyword block) s = block_in steps true number None block s

  -- of the items of a `case` one is selected, or none
  pub case_item_at : {S : Type 0} {n : _} → Steps S → ℕ → Option ℕ → Row_of-CaseGenerateItem n → S → Plan Reply S
  case_item_at steps number selected end_of-CaseGenerateItem s = Give s
  case_item_at steps number selected (more_of-CaseGenerateItem i rest) s = by_number selected (Give s) (case_item_in steps number i s) (λ further. case_item_at steps number (Some further) rest s)

  pub case_item_in : {S : Type 0} → Steps S → ℕ → CaseGenerateItem → S → Plan Reply S
  case_item_in steps number (is_case_generate_item.Default keyword colon block) s = block_in steps true number None block s
  case_item_in steps number (is_case_generate_item.Labels labels colon block) s = block_in steps true number None block s

-- each value of a loop has a block of its own
abbrev pub loop_in : {S : Type 0} → Steps S → ℕ → ℕ → Option ℕ → ℕ → Expr → Expr → GenvarStep → GenerateBlock → S → Plan Reply S
loop_in steps number keyword genvar name start condition step block s = loop_from steps keyword genvar name start condition step (λ value t. block_in steps false number (Some (name, value)) block t) s

-- a `case` with the item that it selects
abbrev pub case_in : {S : Type 0} {n : _} → Steps S → ℕ → Expr → Row_of-CaseGenerateItem n → S → Plan Reply S
case_in steps number selector items s = selection_from steps selector (items-the_row-CaseGenerateItem _ items) (λ selected t. case_item_at steps number selected items t) s

-- ---- a body

abbrev pub counted_item : {S : Type 0} → Steps S → Item → S → Plan Reply S
counted_item steps i s = Spend 1 (item steps None i s)

-- the header, and then item by item
abbrev pub body : {S : Type 0} → Steps S → Header → List Item → S → Plan Reply S
body steps h items s = and_then (header steps h s) (each (counted_item steps) items)
