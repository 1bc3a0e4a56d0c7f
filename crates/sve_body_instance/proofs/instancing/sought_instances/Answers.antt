use Rattle.std.proofs.Common.{ap, sym, ◌∙◌}
use Rattle.std.proofs.lemmas.Result.{err_from_is_err_and}
use Rattle.std.specs.Arc.{arc_value}
use Rattle.sve_told.specs.Told.{Sight}
use Rattle.sve_plan.specs.Plan.{ask}
use Rattle.sve_plan.proofs.Steps.{begins, ends, goes_on, leaves, rests}
use Rattle.sve_look.specs.Questions.{IndexOf, Reply}
use Rattle.sve_body.specs.Items.{instances_of, sought_instances}
use Rattle.sve_body_instance.proofs.instancing.sought_instances.Goals as goal

pub returns-in_err-index : goal.returns-in_err-index
returns-in_err-index g c =
    let s : Sight Reply _ = record { tells = g.W.Look.tells; keeps = g.W.Look.keeps; halted = g.W.Look.halted; stops = g.W.Look.stops; asked = g.W.Look.asked } in
    let r = err_from_is_err_and c.from_residual.result c.from_residual.ensures.1 in
    leaves s g.met.W.Look.keeps_itself g.met.W.Look.keeps_on c.ask_index.new.world c.args.fuel.now (ask IndexOf) (λ index. instances_of g.S.Work.steps c.args.one.now (g.S.Work.steps.definition_at index c.args.one.now.definition c.args.work.now) c.args.work.now) c.in_err-index.field-0.0 r.0 c.from_residual.result _ r.1 r.2 (begins s g.met.W.Look.keeps_itself g.met.W.Look.keeps_on c.args.world.now c.args.fuel.now (sought_instances g.S.Work.steps c.args.one.now c.args.work.now) c.requires) c.in_err-index.ensures

pub returns : goal.returns
returns g c =
    let s : Sight Reply _ = record { tells = g.W.Look.tells; keeps = g.W.Look.keeps; halted = g.W.Look.halted; stops = g.W.Look.stops; asked = g.W.Look.asked } in
    ends s g.met.W.Look.keeps_itself g.met.W.Look.keeps_on c.instances_of.new.world c.args.fuel.now (instances_of g.S.Work.steps c.args.one.now c.in_ok-place.place c.args.work.now) _ (rests s g.met.W.Look.keeps_itself g.met.W.Look.keeps_on _ (goes_on s g.met.W.Look.keeps_itself g.met.W.Look.keeps_on (ask IndexOf) (λ index. instances_of g.S.Work.steps c.args.one.now (g.S.Work.steps.definition_at index c.args.one.now.definition c.args.work.now) c.args.work.now) (begins s g.met.W.Look.keeps_itself g.met.W.Look.keeps_on c.args.world.now c.args.fuel.now (sought_instances g.S.Work.steps c.args.one.now c.args.work.now) c.requires) (arc_value c.in_ok-index.index) c.in_ok-index.ensures) (ap (λ x. instances_of g.S.Work.steps c.args.one.now (g.S.Work.steps.definition_at x c.args.one.now.definition c.args.work.now) c.args.work.now) (sym c.deref.ensures) ∙ ap (λ place. instances_of g.S.Work.steps c.args.one.now place c.args.work.now) (sym c.in_ok-place.ensures))) c.instances_of.ensures
