-- What the three expressions of a generate loop cost and give (IEEE 1800-2017, 27.4).
use Rattle.std.specs.Prelude.{ℕ, Bool, true, false, if◌then◌else◌, ℤ, pos, List, Option, Some, None, Result, Ok, bytes_eq}
use Rattle.sve_value.specs.Truths.{truth_of}
use Rattle.sve_value.specs.declared.operators.Binary.{Binary}
use Rattle.sve_value.specs.declared.operators.Binary.TheVariants.{Add, Subtract, Multiply, Divide, Modulus, BitwiseAnd, BitwiseOr, BitwiseXor, LogicalShiftLeft, LogicalShiftRight, ArithmeticShiftLeft, ArithmeticShiftRight}
use Rattle.sve_operand.specs.Meaning.{own_value, settled_meaning}
use Rattle.sve_fault.specs.declared.fault.Fault.{Fault}
use Rattle.sve_fault.specs.Faults.{after}
use Rattle.sve_rule.specs.Judged.{Judged}
use Rattle.sve_rule.specs.Rules.{assigned, binary_judged}
use Rattle.sve_tree.specs.declared.word.AssignmentOperator.{AssignmentOperator}
use Rattle.sve_tree.specs.declared.word.AssignmentOperator.TheVariants as is_operator
use Rattle.sve_tree.specs.declared.word.StepOperator.{StepOperator}
use Rattle.sve_tree.specs.declared.word.StepOperator.TheVariants as is_step
use Rattle.sve_tree.specs.declared.statement.Change.{Change}
use Rattle.sve_tree.specs.declared.statement.Change.TheVariants as is_change
use Rattle.sve_tree.specs.declared.item.GenvarStep.{GenvarStep}
use Rattle.sve_tree.specs.declared.item.GenvarStep.TheVariants as is_genvar_step
use Rattle.sve_tree.specs.declared.expression.Expr.{Expr}
use Rattle.sve_env.specs.Told.{Told}
use Rattle.sve_env.specs.Nodes.{nodes}
use Rattle.sve_measure.specs.Constants.{measured}
use Rattle.sve_plan.specs.Plan.{Counted}
use Rattle.sve_genvar.specs.Genvar.{genvar_value, index_of}

-- the value as it is assigned to the genvar
abbrev pub assigned_index : Judged → Result (Option ℤ) Fault
assigned_index judged = after judged (λ a. Ok (index_of (assigned 32 true a)))

-- the first value is evaluated where the genvar has none
abbrev pub started : Told → Expr → Counted (Result (Option ℤ) Fault)
started m start = (nodes m start, assigned_index (measured m start))

-- unknown counts as false (own)
abbrev pub is_true : Option Bool → Bool
is_true None = false
is_true (Some truth) = truth

abbrev pub continued : Told → Expr → Counted (Result Bool Fault)
continued m condition = (nodes m condition, after (measured m condition) (λ a. Ok (is_true (truth_of (own_value a)))))

-- the operator of an assignment with one (11.4.1)
abbrev pub operator_of : AssignmentOperator → Option Binary
operator_of is_operator.Assign = None
operator_of is_operator.Nonblocking = None
operator_of is_operator.Plus = Some Add
operator_of is_operator.Minus = Some Subtract
operator_of is_operator.Times = Some Multiply
operator_of is_operator.Divide = Some Divide
operator_of is_operator.Remainder = Some Modulus
operator_of is_operator.And = Some BitwiseAnd
operator_of is_operator.Or = Some BitwiseOr
operator_of is_operator.Xor = Some BitwiseXor
operator_of is_operator.LogicalShiftLeft = Some LogicalShiftLeft
operator_of is_operator.LogicalShiftRight = Some LogicalShiftRight
operator_of is_operator.ArithmeticShiftLeft = Some ArithmeticShiftLeft
operator_of is_operator.ArithmeticShiftRight = Some ArithmeticShiftRight

-- `i += e` is `i = i + (e)`
abbrev pub operated : Option Binary → ℤ → Judged → Judged
operated None value judged = judged
operated (Some operator) value judged = binary_judged operator (Ok (settled_meaning (genvar_value value))) judged

abbrev pub step_operator : StepOperator → Binary
step_operator is_step.Increment = Add
step_operator is_step.Decrement = Subtract

-- a step that assigns another name leaves the genvar as it is
abbrev pub kept : Bool → ℤ → Option ℤ → Option ℤ
kept same value next = if same then next else Some value

-- the value behind an assignment of this value
abbrev pub changed : Bool → ℤ → Option Binary → Judged → Result (Option ℤ) Fault
changed same value operator judged = after (operated operator value judged) (λ a. Ok (kept same value (index_of (assigned 32 true a))))

-- `i++` is `i += 1`, and counts nothing (11.4.2)
abbrev pub stepped : Bool → ℤ → StepOperator → Result (Option ℤ) Fault
stepped same value operator = changed same value (Some (step_operator operator)) (Ok (settled_meaning (genvar_value (pos 1))))

abbrev pub after_change : Told → Bool → ℤ → Change → Counted (Result (Option ℤ) Fault)
after_change m same value (is_change.Assign operator e) = (nodes m e.value, changed same value (operator_of operator.kind) (measured m e.value))
after_change m same value (is_change.Step operator) = (0, stepped same value operator.kind)

abbrev pub after_step : Told → List ℕ → ℤ → GenvarStep → Counted (Result (Option ℤ) Fault)
after_step m genvar value (is_genvar_step.Before operator name) = (0, stepped (bytes_eq (m.text name) genvar) value operator.kind)
after_step m genvar value (is_genvar_step.Change name change) = after_change m (bytes_eq (m.text name) genvar) value change
