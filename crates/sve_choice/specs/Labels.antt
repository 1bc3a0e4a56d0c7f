-- The item of a generate `case` that is selected (IEEE 1800-2017, 12.5 and 27.5), by what its selector and its labels mean.
use Rattle.std.specs.Prelude.{ℕ, ◌+◌, max, Bool, true, false, ◌&&◌, if◌then◌else◌, List, [], ◌∷◌, ◌++◌, map, sum_by, Option, Some, None, Ok, Err}
use Rattle.std.specs.List.{flat_map, fold}
use Rattle.sve_value.specs.Truths.{truth_of}
use Rattle.sve_value.specs.Operators.{binary_of}
use Rattle.sve_value.specs.declared.operators.Binary.TheVariants.{CaseEqual}
use Rattle.sve_operand.specs.Meaning.{Meaning}
use Rattle.sve_fault.specs.declared.fault.Fault.{Fault}
use Rattle.sve_rule.specs.Judged.{Judged}
use Rattle.sve_tree.specs.declared.expression.Expr.{Expr}
use Rattle.sve_tree.specs.declared.item.CaseGenerateItem.{CaseGenerateItem}
use Rattle.sve_tree.specs.declared.item.CaseGenerateItem.TheVariants as is_item
use Rattle.sve_env.specs.Told.{Told}
use Rattle.sve_env.specs.Nodes.{nodes}
use Rattle.sve_measure.specs.Constants.{measured}
use Rattle.sve_choice.specs.Conditions.{is_true, faults_in}

-- the labels of an item; `default` has none
abbrev pub labels_of : CaseGenerateItem → List Expr
labels_of (is_item.Default keyword colon block) = []
labels_of (is_item.Labels labels colon block) = labels.items.items

abbrev pub is_default : CaseGenerateItem → Bool
is_default (is_item.Default keyword colon block) = true
is_default (is_item.Labels labels colon block) = false

-- what the labels of an item mean, each with the item's number
abbrev pub numbered_labels : Told → ℕ → List Expr → List (ℕ × Judged)
numbered_labels m number labels = map (λ label. (number, measured m label)) labels

-- what all labels mean, each with the number of its item, from an item's number on
unfoldable pub numbered : Told → ℕ → List CaseGenerateItem → List (ℕ × Judged)
numbered m number [] = []
numbered m number (item ∷ items) = numbered_labels m number (labels_of item) ++ numbered m (number + 1) items

-- a label with a value; one with a fault matches nothing, and takes no part in the size
abbrev pub valued : ℕ × Judged → List (ℕ × Meaning)
valued (number, Ok a) = (number, a) ∷ []
valued (number, Err fault) = []

abbrev pub label_faults : ℕ × Judged → List Fault
label_faults label = faults_in label.1

-- all expressions are extended to the widest, signed where all are (12.5)
abbrev pub widened : ℕ × Bool → ℕ × Meaning → ℕ × Bool
widened shape label = (max shape.0 label.1.width, shape.1 && label.1.signed)

abbrev pub shape_of : Meaning → List (ℕ × Meaning) → ℕ × Bool
shape_of selector labels = fold widened (selector.width, selector.signed) labels

-- a label is the selector, bit for bit, x and z included
abbrev pub is_match : ℕ × Bool → Meaning → Meaning → Bool
is_match shape selector label = is_true (truth_of (binary_of CaseEqual (selector.value shape.0 shape.1) (label.value shape.0 shape.1)))

-- the number of the item with the first label that matches
unfoldable pub first_match : ℕ × Bool → Meaning → List (ℕ × Meaning) → Option ℕ
first_match shape selector [] = None
first_match shape selector (label ∷ labels) = if is_match shape selector label.1 then Some label.0 else first_match shape selector labels

-- the number of the first `default`, wherever it stands
unfoldable pub first_default : ℕ → List CaseGenerateItem → Option ℕ
first_default number [] = None
first_default number (item ∷ items) = if is_default item then Some number else first_default (number + 1) items

abbrev pub or_else : Option ℕ → Option ℕ → Option ℕ
or_else None other = other
or_else (Some number) other = Some number

-- a selector with a fault matches nothing
abbrev pub matched : Judged → List (ℕ × Meaning) → Option ℕ
matched (Ok selector) labels = first_match (shape_of selector labels) selector labels
matched (Err fault) labels = None

-- The number of the item that is selected, from 0: the first with a label that matches, else the first `default`, else none. All labels are evaluated,
-- and the faults are those of the selector and of the labels, in the order of the text.
abbrev pub chosen : Told → Expr → List CaseGenerateItem → Option ℕ × List Fault
chosen m selector items = (
  or_else (matched (measured m selector) (flat_map valued (numbered m 0 items))) (first_default 0 items),
  faults_in (measured m selector) ++ flat_map label_faults (numbered m 0 items),
)

-- the nodes of all labels
abbrev pub item_nodes : Told → CaseGenerateItem → ℕ
item_nodes m item = sum_by (nodes m) (labels_of item)

abbrev pub case_nodes : Told → Expr → List CaseGenerateItem → ℕ
case_nodes m selector items = nodes m selector + sum_by (item_nodes m) items
