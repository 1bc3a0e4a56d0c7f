-- How a generate construct of a body goes on, by what is found where it stands (IEEE 1800-2017, clause 27).
use Rattle.std.specs.Prelude.{ℕ, Bool, true, false, ℤ, if◌then◌else◌, List, Option, Some, None, Result, Ok, Err}
use Rattle.sve_fault.specs.declared.fault.Fault.{Fault}
use Rattle.sve_tree.specs.declared.expression.Expr.{Expr}
use Rattle.sve_tree.specs.declared.item.CaseGenerateItem.{CaseGenerateItem}
use Rattle.sve_tree.specs.declared.item.GenerateBlock.{GenerateBlock}
use Rattle.sve_tree.specs.declared.item.LoopGenerate.{LoopGenerate}
use Rattle.sve_env.specs.Nodes.{nodes}
use Rattle.sve_measure.specs.Constants.{measured}
use Rattle.sve_generate.specs.Constructs.{block_token, nesting_fault}
use Rattle.sve_choice.specs.Conditions.{faults_in, holds}
use Rattle.sve_choice.specs.Labels.{case_nodes, chosen}
use Rattle.sve_plan.specs.Plan.{Counted}
use Rattle.sve_body.specs.Steps.{Steps}
use Rattle.sve_body.specs.Items.{say_all}
use Rattle.sve_body.specs.Loops.{loop_values}
use Rattle.sve_body.specs.Body.{block_label, label_is_wrong}

-- ---- loops (27.4)

-- what is wrong with the genvar of a loop
abbrev pub genvar_fault_of : {S : Type 0} → Steps S → LoopGenerate → S → Option Fault
genvar_fault_of steps c s = steps.genvar_fault c.genvar c.name s

abbrev pub values_of : {S : Type 0} → Steps S → LoopGenerate → S → Counted (Result (List ℤ) Fault)
values_of steps c s = loop_values (steps.told s) c.keyword c.name c.start.value c.condition.value c.step

-- the values, where there is no fault; a fault is said
abbrev pub or_said : {S X : Type 0} → Steps S → Result X Fault → S → Option X × S
or_said steps (Ok x) s = (Some x, s)
or_said steps (Err fault) s = (None, steps.say fault s)

abbrev pub found_values : {S : Type 0} → Steps S → LoopGenerate → S → Counted (Option (List ℤ) × S)
found_values steps c s = ((values_of steps c s).0, or_said steps (values_of steps c s).1 s)

-- ---- conditionals (27.5)

-- whether a condition holds; its fault is said
abbrev pub found_condition : {S : Type 0} → Steps S → Expr → S → Counted (Bool × S)
found_condition steps e s = (nodes (steps.told s) e, (holds (measured (steps.told s) e), say_all steps (faults_in (measured (steps.told s) e)) s))

-- the number of the item that a `case` selects; what is wrong with its selector and its labels is said
abbrev pub found_item : {S : Type 0} → Steps S → Expr → List CaseGenerateItem → S → Counted (Option ℕ × S)
found_item steps selector items s = (case_nodes (steps.told s) selector items, ((chosen (steps.told s) selector items).0, say_all steps (chosen (steps.told s) selector items).1 s))

-- ---- blocks (27.3 and 27.6)

-- whether what stands in a block is gone over, once it is entered: it is not where the block is the 33rd inside one another, which is left again
abbrev pub within_block : {S : Type 0} → Steps S → Option Fault → S → Bool × S
within_block steps (Some fault) s = (false, steps.leave (steps.say fault s))
within_block steps None s = (true, s)

-- the same of a block that is not entered yet: one with a wrong label is not
abbrev pub opened : {S : Type 0} → Steps S → ℕ → Option (ℕ × ℤ) → GenerateBlock → S → Bool × S
opened steps number turn block s =
    if label_is_wrong steps number (block_label block) s then (false, s) else within_block steps (nesting_fault (steps.depth s) (block_token block)) (steps.enter number turn block s)
