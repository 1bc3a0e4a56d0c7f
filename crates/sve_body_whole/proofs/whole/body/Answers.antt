-- The header, and then the items.
use Rattle.std.proofs.lemmas.Result.{err_from_is_err_and}
use Rattle.sve_told.specs.Told.{Sight}
use Rattle.sve_plan.specs.Plan.{each}
use Rattle.sve_plan.proofs.Steps.{begins, ends, goes_on, leaves}
use Rattle.sve_look.specs.Questions.{Reply}
use Rattle.sve_body.specs.Items.{header}
use Rattle.sve_body.specs.Body.{body, counted_item}
use Rattle.sve_body_whole.proofs.whole.body.Goals as goal

pub returns-in_err-header : goal.returns-in_err-header
returns-in_err-header g c =
    let s : Sight Reply _ = record { tells = g.W.Look.tells; keeps = g.W.Look.keeps; halted = g.W.Look.halted; stops = g.W.Look.stops; asked = g.W.Look.asked } in
    let r = err_from_is_err_and c.from_residual.result c.from_residual.ensures.1 in
    leaves s g.met.W.Look.keeps_itself g.met.W.Look.keeps_on c.header.new.world c.header.new.fuel (header g.S.Work.steps c.args.header.now c.args.work.now) (each (counted_item g.S.Work.steps) c.args.items.now) c.in_err-header.field-0.0 r.0 c.from_residual.result _ r.1 r.2
    (begins s g.met.W.Look.keeps_itself g.met.W.Look.keeps_on c.args.world.now c.args.fuel.now (body g.S.Work.steps c.args.header.now c.args.items.now c.args.work.now) c.requires) c.in_err-header.ensures

pub returns : goal.returns
returns g c =
    let s : Sight Reply _ = record { tells = g.W.Look.tells; keeps = g.W.Look.keeps; halted = g.W.Look.halted; stops = g.W.Look.stops; asked = g.W.Look.asked } in
    ends s g.met.W.Look.keeps_itself g.met.W.Look.keeps_on c.items.new.world c.items.new.fuel (each (counted_item g.S.Work.steps) c.args.items.now c.header.new.work) _
    (goes_on s g.met.W.Look.keeps_itself g.met.W.Look.keeps_on (header g.S.Work.steps c.args.header.now c.args.work.now) (each (counted_item g.S.Work.steps) c.args.items.now)
    (begins s g.met.W.Look.keeps_itself g.met.W.Look.keeps_on c.args.world.now c.args.fuel.now (body g.S.Work.steps c.args.header.now c.args.items.now c.args.work.now) c.requires) c.header.new.work c.in_ok-header.ensures) c.items.ensures
