-- The shape so far, widened by the labels that are left, is that of all.
use Rattle.std.proofs.Common.{◌≡◌, drop}
use Rattle.std.specs.List.{fold}
use Rattle.sve_value.specs.Vector.{IsWidth}
use Rattle.sve_operand.specs.Pending.{meaning_of}
use Rattle.sve_choice.specs.Labels.{shape_of, widened}
use Rattle.sve_choice.specs.Held.{labels_held}
use Rattle.sve_choice.proofs.selection.shape_of.Given as goal

abbrev pub invariant-labels : goal.invariant-labels
invariant-labels l = record {
  shape : fold widened (l.width, l.signed) (labels_held (drop l.label-index l.labels)) ≡ shape_of (meaning_of l.selector) (labels_held l.labels);
  width : IsWidth l.width;
}
