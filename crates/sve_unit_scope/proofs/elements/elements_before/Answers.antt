-- One chunk after another.
use Rattle.std.proofs.Common.{◌+◌, drop}
use Rattle.std.proofs.lemmas.Result.{err_from_is_err_and}
use Rattle.std.specs.List.{range_with_len}
use Rattle.sve_told.specs.Told.{Sight}
use Rattle.sve_plan.specs.Plan.{Give, and_then, each}
use Rattle.sve_plan.proofs.Steps.{goes_on, leaves, rests}
use Rattle.sve_look.specs.Questions.{Reply}
use Rattle.sve_unit_scope.specs.Elements.{element_of}
use Rattle.sve_unit_scope.proofs.Chunks.{next_chunk, no_chunk}
use Rattle.sve_unit_scope.proofs.elements.elements_before.Goals as goal

pub chunks-preserved : goal.chunks-preserved
chunks-preserved g c =
    let s : Sight Reply _ = record { tells = g.W.Look.tells; keeps = g.W.Look.keeps; halted = g.W.Look.halted; stops = g.W.Look.stops; asked = g.W.Look.asked } in
    let f = element_of c.args.file.now in
    let one = f c.chunks.chunk c.chunks.elements.items in
    let more = each f (drop (c.chunks.chunk + 1) (range_with_len 0 c.args.end)) in
    goes_on s g.met.W.Look.keeps_itself g.met.W.Look.keeps_on one more
    (rests s g.met.W.Look.keeps_itself g.met.W.Look.keeps_on (and_then one more) c.chunks.invariant (next_chunk f c.args.end c.chunks.chunk c.chunks.elements.items c.chunks-test.true)) c.one_more.new.elements.items c.in_ok-one_more.ensures

pub returns-in_err-one_more : goal.returns-in_err-one_more
returns-in_err-one_more g c =
    let s : Sight Reply _ = record { tells = g.W.Look.tells; keeps = g.W.Look.keeps; halted = g.W.Look.halted; stops = g.W.Look.stops; asked = g.W.Look.asked } in
    let r = err_from_is_err_and c.from_residual.result c.from_residual.ensures.1 in
    let f = element_of c.args.file.now in
    let one = f c.chunks.chunk c.chunks.elements.items in
    let more = each f (drop (c.chunks.chunk + 1) (range_with_len 0 c.args.end)) in
    leaves s g.met.W.Look.keeps_itself g.met.W.Look.keeps_on c.one_more.new.world c.args.fuel.now one more c.in_err-one_more.field-0.0 r.0 c.from_residual.result _ r.1 r.2
    (rests s g.met.W.Look.keeps_itself g.met.W.Look.keeps_on (and_then one more) c.chunks.invariant (next_chunk f c.args.end c.chunks.chunk c.chunks.elements.items c.chunks-test.true)) c.in_err-one_more.ensures

pub returns : goal.returns
returns g c =
    let s : Sight Reply _ = record { tells = g.W.Look.tells; keeps = g.W.Look.keeps; halted = g.W.Look.halted; stops = g.W.Look.stops; asked = g.W.Look.asked } in
    rests s g.met.W.Look.keeps_itself g.met.W.Look.keeps_on (Give c.chunks.elements.items) c.chunks.invariant (no_chunk (element_of c.args.file.now) c.args.end c.chunks.chunk c.chunks.elements.items c.chunks-test.false)
