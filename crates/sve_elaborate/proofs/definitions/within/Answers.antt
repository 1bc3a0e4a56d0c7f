-- The body, in the scope that was found for it.
use Rattle.sve_told.specs.Told.{Sight}
use Rattle.sve_plan.proofs.Steps.{begins, ends, rests}
use Rattle.sve_look.specs.Questions.{Reply}
use Rattle.sve_elaborate.specs.Bodies.{body_in, within}
use Rattle.sve_elaborate.proofs.Beginnings.{begun_by}
use Rattle.sve_elaborate.proofs.definitions.within.Goals as goal

pub returns : goal.returns
returns g c =
    let s : Sight Reply _ = record { tells = g.W.Look.tells; keeps = g.W.Look.keeps; halted = g.W.Look.halted; stops = g.W.Look.stops; asked = g.W.Look.asked } in
    let d = c.args.definition.now in
    let packages = c.args.packages.now in
    let designs = c.args.designs.now in
    let inside = body_in c.args.extent packages c.as_slice.result.now designs c.items.result.now c.in_ok-contents.contents d in
    ends s g.met.W.Look.keeps_itself g.met.W.Look.keeps_on c.body_in.new.world c.body_in.new.fuel inside _
    (rests s g.met.W.Look.keeps_itself g.met.W.Look.keeps_on inside (begins s g.met.W.Look.keeps_itself g.met.W.Look.keeps_on c.args.world.now c.args.fuel.now (within c.args.extent packages designs c.args.spec.now c.args.def.now c.args.elements.now c.args.own.now d) c.requires)
    (begun_by c.args.extent packages _ c.as_slice.result.now designs _ c.items.result.now _ c.in_ok-contents.contents d c.as_slice.ensures.value c.items.ensures c.in_ok-contents.ensures)) c.body_in.ensures
