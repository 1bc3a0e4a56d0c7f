use Rattle.std.proofs.Common.{ap, sym}
use Rattle.std.proofs.lemmas.Result.{err_from_is_err_and}
use Rattle.sve_told.specs.Told.{Sight}
use Rattle.sve_plan.proofs.Steps.{begins, ends, leaves_spent, pays, rests}
use Rattle.sve_look.specs.Questions.{Reply}
use Rattle.sve_body.specs.Items.{instances, sought_instances}
use Rattle.sve_body_instance.proofs.instancing.instances.Goals as goal

pub returns-in_err-overrides : goal.returns-in_err-overrides
returns-in_err-overrides g c =
    let s : Sight Reply _ = record { tells = g.W.Look.tells; keeps = g.W.Look.keeps; halted = g.W.Look.halted; stops = g.W.Look.stops; asked = g.W.Look.asked } in
    let r = err_from_is_err_and c.from_residual.result c.from_residual.ensures.1 in
    leaves_spent s g.met.W.Look.keeps_itself g.met.W.Look.keeps_on c.overrides.new.fuel (g.S.Work.steps.overrides c.args.one.now.overrides c.args.work.now) (sought_instances g.S.Work.steps c.args.one.now (g.S.Work.steps.overrides c.args.one.now.overrides c.args.work.now).1) c.in_err-overrides.field-0.0 r.0 c.from_residual.result _ r.1 r.2 (begins s g.met.W.Look.keeps_itself g.met.W.Look.keeps_on c.args.world.now c.args.fuel.now (instances g.S.Work.steps c.args.one.now c.args.work.now) c.requires) c.in_err-overrides.ensures

pub returns : goal.returns
returns g c =
    let s : Sight Reply _ = record { tells = g.W.Look.tells; keeps = g.W.Look.keeps; halted = g.W.Look.halted; stops = g.W.Look.stops; asked = g.W.Look.asked } in
    ends s g.met.W.Look.keeps_itself g.met.W.Look.keeps_on c.sought_instances.new.world c.overrides.new.fuel (sought_instances g.S.Work.steps c.args.one.now c.overrides.new.self) _ (rests s g.met.W.Look.keeps_itself g.met.W.Look.keeps_on _ (pays s g.met.W.Look.keeps_itself g.met.W.Look.keeps_on (g.S.Work.steps.overrides c.args.one.now.overrides c.args.work.now) (sought_instances g.S.Work.steps c.args.one.now (g.S.Work.steps.overrides c.args.one.now.overrides c.args.work.now).1) c.overrides.new.self (begins s g.met.W.Look.keeps_itself g.met.W.Look.keeps_on c.args.world.now c.args.fuel.now (instances g.S.Work.steps c.args.one.now c.args.work.now) c.requires) c.in_ok-overrides.ensures) (ap (λ t. sought_instances g.S.Work.steps c.args.one.now t) (sym c.in_ok-overrides.ensures.1))) c.sought_instances.ensures
