-- What the program holds of labels.
use Rattle.std.specs.Prelude.{ℕ, List, map}
use Rattle.sve_operand.specs.Meaning.{Meaning}
use Rattle.sve_operand.specs.Pending.{meaning_of}
use Rattle.sve_choice.specs.declared.label.Label.{Label}

abbrev pub label_of : Label → ℕ × Meaning
label_of label = (label.item, meaning_of label.operand)

abbrev pub labels_held : List Label → List (ℕ × Meaning)
labels_held labels = map label_of labels
