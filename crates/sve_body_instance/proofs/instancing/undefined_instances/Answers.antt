use Rattle.std.proofs.Common.{ap, sym, ◌∙◌}
use Rattle.sve_told.specs.Told.{Sight}
use Rattle.sve_plan.specs.Plan.{each}
use Rattle.sve_plan.proofs.Steps.{begins, ends, rests}
use Rattle.sve_look.specs.Questions.{Reply}
use Rattle.sve_body.specs.Items.{undefined_instances, unknown_instance}
use Rattle.sve_body_instance.proofs.instancing.undefined_instances.Goals as goal

pub returns : goal.returns
returns g c =
    let s : Sight Reply _ = record { tells = g.W.Look.tells; keeps = g.W.Look.keeps; halted = g.W.Look.halted; stops = g.W.Look.stops; asked = g.W.Look.asked } in
    ends s g.met.W.Look.keeps_itself g.met.W.Look.keeps_on c.each_unknown.new.world c.args.fuel.now (each (unknown_instance g.S.Work.steps) c.as_slice.result.now c.no_definition.new.self) _ (rests s g.met.W.Look.keeps_itself g.met.W.Look.keeps_on _ (begins s g.met.W.Look.keeps_itself g.met.W.Look.keeps_on c.args.world.now c.args.fuel.now (undefined_instances g.S.Work.steps c.args.one.now c.args.work.now) c.requires) (ap (λ t. each (unknown_instance g.S.Work.steps) c.args.one.now.instances.items.items t) (sym c.in_ok-no_definition.ensures) ∙ ap (λ l. each (unknown_instance g.S.Work.steps) l c.no_definition.new.self) (sym c.as_slice.ensures))) c.each_unknown.ensures
