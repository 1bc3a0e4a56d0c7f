-- It is paid, and asks nothing.
use Rattle.std.proofs.Common.{ap, sym}
use Rattle.std.proofs.lemmas.Result.{err_from_is_err_and}
use Rattle.sve_told.specs.Told.{Sight}
use Rattle.sve_plan.specs.Plan.{Give}
use Rattle.sve_plan.proofs.Steps.{begins, leaves_spent, pays, rests}
use Rattle.sve_look.specs.Questions.{Reply}
use Rattle.sve_body.specs.Items.{done, plain_item}
use Rattle.sve_body_block.proofs.walk.plain.Goals as goal

pub returns-in_err-plain_item : goal.returns-in_err-plain_item
returns-in_err-plain_item g c =
    let s : Sight Reply _ = record { tells = g.W.Look.tells; keeps = g.W.Look.keeps; halted = g.W.Look.halted; stops = g.W.Look.stops; asked = g.W.Look.asked } in
    let r = err_from_is_err_and c.from_residual.result c.from_residual.ensures.1 in
    let found = plain_item g.S.Work.steps c.args.one.now c.args.work.now in
    leaves_spent s g.met.W.Look.keeps_itself g.met.W.Look.keeps_on c.plain_item.new.fuel found (Give found.1) c.in_err-plain_item.field-0.0 r.0 c.from_residual.result _ r.1 r.2
    (begins s g.met.W.Look.keeps_itself g.met.W.Look.keeps_on c.args.world.now c.args.fuel.now (done found) c.requires) c.in_err-plain_item.ensures

pub returns : goal.returns
returns g c =
    let s : Sight Reply _ = record { tells = g.W.Look.tells; keeps = g.W.Look.keeps; halted = g.W.Look.halted; stops = g.W.Look.stops; asked = g.W.Look.asked } in
    let found = plain_item g.S.Work.steps c.args.one.now c.args.work.now in
    rests s g.met.W.Look.keeps_itself g.met.W.Look.keeps_on (Give c.plain_item.new.work)
    (pays s g.met.W.Look.keeps_itself g.met.W.Look.keeps_on found (Give found.1) c.plain_item.new.work (begins s g.met.W.Look.keeps_itself g.met.W.Look.keeps_on c.args.world.now c.args.fuel.now (done found) c.requires) c.in_ok-plain_item.ensures)
    (ap Give (sym c.in_ok-plain_item.ensures.1))
