use Rattle.std.proofs.Common.{◌+◌, drop}
use Rattle.std.proofs.lemmas.Result.{err_from_is_err_and}
use Rattle.sve_told.specs.Told.{Sight}
use Rattle.sve_plan.specs.Plan.{Give, and_then, each}
use Rattle.sve_plan.proofs.Steps.{goes_on, leaves, rests}
use Rattle.sve_look.specs.Questions.{Reply, element_in}
use Rattle.sve_body.specs.Items.{instance}
use Rattle.sve_body_item.proofs.Each.{next_item, no_item}
use Rattle.sve_body_instance.proofs.instancing.each_instance.Goals as goal

pub all-preserved : goal.all-preserved
all-preserved g c =
    let s : Sight Reply _ = record { tells = g.W.Look.tells; keeps = g.W.Look.keeps; halted = g.W.Look.halted; stops = g.W.Look.stops; asked = g.W.Look.asked } in
    goes_on s g.met.W.Look.keeps_itself g.met.W.Look.keeps_on (instance g.S.Work.steps c.args.definition (element_in c.args.element.now) c.one-item.result c.all.work) (each (instance g.S.Work.steps c.args.definition (element_in c.args.element.now)) (drop (c.all.one-index + 1) c.args.all.now)) (rests s g.met.W.Look.keeps_itself g.met.W.Look.keeps_on (and_then (instance g.S.Work.steps c.args.definition (element_in c.args.element.now) c.one-item.result c.all.work) (each (instance g.S.Work.steps c.args.definition (element_in c.args.element.now)) (drop (c.all.one-index + 1) c.args.all.now))) c.all.invariant (next_item (instance g.S.Work.steps c.args.definition (element_in c.args.element.now)) c.args.all.now c.all.one-index c.one-item.result c.all.work c.all-test.true c.one-item.is)) c.instance.new.work c.in_ok-instance.ensures

pub returns-in_err-instance : goal.returns-in_err-instance
returns-in_err-instance g c =
    let s : Sight Reply _ = record { tells = g.W.Look.tells; keeps = g.W.Look.keeps; halted = g.W.Look.halted; stops = g.W.Look.stops; asked = g.W.Look.asked } in
    let r = err_from_is_err_and c.from_residual.result c.from_residual.ensures.1 in
    leaves s g.met.W.Look.keeps_itself g.met.W.Look.keeps_on c.instance.new.world c.args.fuel.now (instance g.S.Work.steps c.args.definition (element_in c.args.element.now) c.one-item.result c.all.work) (each (instance g.S.Work.steps c.args.definition (element_in c.args.element.now)) (drop (c.all.one-index + 1) c.args.all.now)) c.in_err-instance.field-0.0 r.0 c.from_residual.result _ r.1 r.2 (rests s g.met.W.Look.keeps_itself g.met.W.Look.keeps_on (and_then (instance g.S.Work.steps c.args.definition (element_in c.args.element.now) c.one-item.result c.all.work) (each (instance g.S.Work.steps c.args.definition (element_in c.args.element.now)) (drop (c.all.one-index + 1) c.args.all.now))) c.all.invariant (next_item (instance g.S.Work.steps c.args.definition (element_in c.args.element.now)) c.args.all.now c.all.one-index c.one-item.result c.all.work c.all-test.true c.one-item.is)) c.in_err-instance.ensures

pub returns : goal.returns
returns g c =
    let s : Sight Reply _ = record { tells = g.W.Look.tells; keeps = g.W.Look.keeps; halted = g.W.Look.halted; stops = g.W.Look.stops; asked = g.W.Look.asked } in
    rests s g.met.W.Look.keeps_itself g.met.W.Look.keeps_on (Give c.all.work) c.all.invariant (no_item (instance g.S.Work.steps c.args.definition (element_in c.args.element.now)) c.args.all.now c.all.one-index c.all.work c.all-test.false)
