use Rattle.std.proofs.Common.{ap, sym, ◌∙◌}
use Rattle.std.proofs.lemmas.Result.{err_from_is_err_and}
use Rattle.sve_told.specs.Told.{Sight}
use Rattle.sve_plan.specs.Plan.{Give, and_then, each}
use Rattle.sve_plan.proofs.Steps.{begins, goes_on, leaves, rests}
use Rattle.sve_look.specs.Questions.{Reply}
use Rattle.sve_body.specs.Items.{implied, unknown_instance}
use Rattle.sve_body_instance.proofs.Equations.{unknown_of}
use Rattle.sve_body_instance.proofs.instancing.unknown_instance.Goals as goal

pub returns-in_err-implied_all : goal.returns-in_err-implied_all
returns-in_err-implied_all g c =
    let s : Sight Reply _ = record { tells = g.W.Look.tells; keeps = g.W.Look.keeps; halted = g.W.Look.halted; stops = g.W.Look.stops; asked = g.W.Look.asked } in
    let r = err_from_is_err_and c.from_residual-in_err-implied_all.result c.from_residual-in_err-implied_all.ensures.1 in
    leaves s g.met.W.Look.keeps_itself g.met.W.Look.keeps_on c.implied_all.new.world c.args.fuel.now (each (implied g.S.Work.steps) c.as_slice.result.now c.args.work.now) (λ t. Give (g.S.Work.steps.unknown c.args.one.now t)) c.in_err-implied_all.field-0.0 r.0 c.from_residual-in_err-implied_all.result _ r.1 r.2 (rests s g.met.W.Look.keeps_itself g.met.W.Look.keeps_on (and_then (each (implied g.S.Work.steps) c.as_slice.result.now c.args.work.now) (λ t. Give (g.S.Work.steps.unknown c.args.one.now t))) (begins s g.met.W.Look.keeps_itself g.met.W.Look.keeps_on c.args.world.now c.args.fuel.now (unknown_instance g.S.Work.steps c.args.one.now c.args.work.now) c.requires) (unknown_of g.S.Work.steps c.args.one.now c.args.work.now c.as_slice.result.now (c.as_slice.ensures.value ∙ c.in_ok-tokens.ensures))) c.in_err-implied_all.ensures

pub returns : goal.returns
returns g c =
    let s : Sight Reply _ = record { tells = g.W.Look.tells; keeps = g.W.Look.keeps; halted = g.W.Look.halted; stops = g.W.Look.stops; asked = g.W.Look.asked } in
    rests s g.met.W.Look.keeps_itself g.met.W.Look.keeps_on (Give c.unknown.new.self) (goes_on s g.met.W.Look.keeps_itself g.met.W.Look.keeps_on (each (implied g.S.Work.steps) c.as_slice.result.now c.args.work.now) (λ t. Give (g.S.Work.steps.unknown c.args.one.now t)) (rests s g.met.W.Look.keeps_itself g.met.W.Look.keeps_on (and_then (each (implied g.S.Work.steps) c.as_slice.result.now c.args.work.now) (λ t. Give (g.S.Work.steps.unknown c.args.one.now t))) (begins s g.met.W.Look.keeps_itself g.met.W.Look.keeps_on c.args.world.now c.args.fuel.now (unknown_instance g.S.Work.steps c.args.one.now c.args.work.now) c.requires) (unknown_of g.S.Work.steps c.args.one.now c.args.work.now c.as_slice.result.now (c.as_slice.ensures.value ∙ c.in_ok-tokens.ensures))) c.implied_all.new.work c.in_ok-implied_all.ensures) (ap Give (sym c.in_ok-unknown.ensures))
