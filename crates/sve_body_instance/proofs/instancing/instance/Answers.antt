use Rattle.sve_told.specs.Told.{Sight}
use Rattle.sve_plan.proofs.Steps.{begins, ends, rests}
use Rattle.sve_look.specs.Questions.{Reply, element_in}
use Rattle.sve_body.specs.Items.{instance, known_instance}
use Rattle.sve_body_instance.proofs.Equations.{instance_of}
use Rattle.sve_body_instance.proofs.instancing.instance.Goals as goal

pub returns : goal.returns
returns g c =
    let s : Sight Reply _ = record { tells = g.W.Look.tells; keeps = g.W.Look.keeps; halted = g.W.Look.halted; stops = g.W.Look.stops; asked = g.W.Look.asked } in
    ends s g.met.W.Look.keeps_itself g.met.W.Look.keeps_on c.known_instance.new.world c.args.fuel.now (known_instance g.S.Work.steps c.args.one.now c.in_ok-spec.spec c.specialized.new.self) _ (rests s g.met.W.Look.keeps_itself g.met.W.Look.keeps_on (known_instance g.S.Work.steps c.args.one.now c.in_ok-spec.spec c.specialized.new.self) (begins s g.met.W.Look.keeps_itself g.met.W.Look.keeps_on c.args.world.now c.args.fuel.now (instance g.S.Work.steps c.args.definition (element_in c.args.element.now) c.args.one.now c.args.work.now) c.requires) (instance_of g.S.Work.steps c.args.definition (element_in c.args.element.now) c.args.one.now c.args.work.now c.specialized.new.self c.in_ok-spec.spec c.in_ok-spec.ensures.spec c.in_ok-spec.ensures.left)) c.known_instance.ensures
