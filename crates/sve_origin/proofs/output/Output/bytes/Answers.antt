use Rattle.std.proofs.Common.{sym, ap, ◌∙◌}
use Rattle.sve_origin.specs.Origins.{values}
use Rattle.sve_origin.proofs.Spots.{values-cells}
use Rattle.sve_origin.proofs.output.Output.bytes.Goals as goal

pub returns-clause-bytes : goal.returns-clause-bytes
returns-clause-bytes c = c.as_slice.ensures.value ∙ sym (values-cells c.self.inside.segments.items c.self.inside.bytes.items) ∙ ap values c.self.view_is
