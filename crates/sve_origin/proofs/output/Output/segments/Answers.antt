use Rattle.std.proofs.Common.{ℕ, List, sym, ap, ◌∙◌, length, subst}
use Rattle.std.specs.List.{All}
use Rattle.sve_origin.specs.Origins.{Cell, values, cells, HasOffset}
use Rattle.sve_origin.specs.Segments.{Cover}
use Rattle.sve_origin.specs.declared.segment.Segment.{Segment}
use Rattle.sve_origin.proofs.Spots.{values-cells, length-cells}
use Rattle.sve_origin.proofs.output.Output.segments.Goals as goal

pub returns-clause-cells : goal.returns-clause-cells
returns-clause-cells c =
    let ss = c.self.inside.segments.items in let bs = c.self.inside.bytes.items in
    ap (λ (r : List Segment). cells r (values c.args.self.now)) c.as_slice.ensures.value
    ∙ ap (λ (t : List Cell). cells ss (values t)) (sym c.self.view_is) ∙ ap (cells ss) (values-cells ss bs) ∙ c.self.view_is

pub returns-clause-cover : goal.returns-clause-cover
returns-clause-cover c =
    let ss = c.self.inside.segments.items in let bs = c.self.inside.bytes.items in
    subst (λ (r : List Segment). Cover r (length c.args.self.now)) (sym c.as_slice.ensures.value)
    (subst (λ (n : ℕ). Cover ss n) (sym (length-cells ss bs) ∙ ap length c.self.view_is) c.self.invariant.cover)

pub returns-clause-offsets : goal.returns-clause-offsets
returns-clause-offsets c = subst (All HasOffset) c.self.view_is c.self.invariant.offsets
