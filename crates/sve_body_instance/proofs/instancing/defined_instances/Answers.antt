use Rattle.std.proofs.Common.{ap, sym}
use Rattle.std.proofs.lemmas.Result.{err_from_is_err_and}
use Rattle.sve_told.specs.Told.{Sight}
use Rattle.sve_plan.specs.Plan.{ask, each}
use Rattle.sve_plan.proofs.Steps.{begins, ends, goes_on, leaves, rests}
use Rattle.sve_look.specs.Questions.{ElementOf, Reply, element_in}
use Rattle.sve_body.specs.Items.{defined_instances, instance}
use Rattle.sve_body_instance.proofs.instancing.defined_instances.Goals as goal

pub returns-in_err-element : goal.returns-in_err-element
returns-in_err-element g c =
    let s : Sight Reply _ = record { tells = g.W.Look.tells; keeps = g.W.Look.keeps; halted = g.W.Look.halted; stops = g.W.Look.stops; asked = g.W.Look.asked } in
    let r = err_from_is_err_and c.from_residual.result c.from_residual.ensures.1 in
    leaves s g.met.W.Look.keeps_itself g.met.W.Look.keeps_on c.ask_element.new.world c.args.fuel.now (ask (ElementOf c.args.place.now.file c.args.place.now.chunk)) (λ element. each (instance g.S.Work.steps c.args.one.now.definition element) c.args.one.now.instances.items.items c.args.work.now) c.in_err-element.field-0.0 r.0 c.from_residual.result _ r.1 r.2 (begins s g.met.W.Look.keeps_itself g.met.W.Look.keeps_on c.args.world.now c.args.fuel.now (defined_instances g.S.Work.steps c.args.one.now c.args.place.now c.args.work.now) c.requires) c.in_err-element.ensures

pub returns : goal.returns
returns g c =
    let s : Sight Reply _ = record { tells = g.W.Look.tells; keeps = g.W.Look.keeps; halted = g.W.Look.halted; stops = g.W.Look.stops; asked = g.W.Look.asked } in
    ends s g.met.W.Look.keeps_itself g.met.W.Look.keeps_on c.each_instance.new.world c.args.fuel.now (each (instance g.S.Work.steps c.args.one.now.definition (element_in c.in_ok-element.element)) c.as_slice.result.now c.args.work.now) _ (rests s g.met.W.Look.keeps_itself g.met.W.Look.keeps_on _ (goes_on s g.met.W.Look.keeps_itself g.met.W.Look.keeps_on (ask (ElementOf c.args.place.now.file c.args.place.now.chunk)) (λ element. each (instance g.S.Work.steps c.args.one.now.definition element) c.args.one.now.instances.items.items c.args.work.now) (begins s g.met.W.Look.keeps_itself g.met.W.Look.keeps_on c.args.world.now c.args.fuel.now (defined_instances g.S.Work.steps c.args.one.now c.args.place.now c.args.work.now) c.requires) (element_in c.in_ok-element.element) c.in_ok-element.ensures) (ap (λ l. each (instance g.S.Work.steps c.args.one.now.definition (element_in c.in_ok-element.element)) l c.args.work.now) (sym c.as_slice.ensures))) c.each_instance.ensures
