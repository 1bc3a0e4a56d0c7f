-- None matches so far.
use Rattle.std.proofs.Common.{◌≡◌, drop}
use Rattle.sve_operand.specs.Pending.{meaning_of}
use Rattle.sve_choice.specs.Labels.{first_match}
use Rattle.sve_choice.specs.Held.{labels_held}
use Rattle.sve_choice.proofs.selection.first_match.Given as goal

abbrev pub invariant-labels : goal.invariant-labels
invariant-labels l = first_match (l.shape.width, l.shape.signed) (meaning_of l.selector) (labels_held l.labels) ≡ first_match (l.shape.width, l.shape.signed) (meaning_of l.selector) (labels_held (drop l.label-index l.labels))
