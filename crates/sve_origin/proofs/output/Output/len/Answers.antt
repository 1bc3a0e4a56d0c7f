use Rattle.std.proofs.Common.{sym, ap, ◌∙◌, length}
use Rattle.sve_origin.proofs.Spots.{length-cells}
use Rattle.sve_origin.proofs.output.Output.len.Goals as goal

pub returns : goal.returns
returns c = c.len.ensures ∙ c.self.inside.bytes.ok.0 ∙ sym (length-cells c.self.inside.segments.items c.self.inside.bytes.items) ∙ ap length c.self.view_is
