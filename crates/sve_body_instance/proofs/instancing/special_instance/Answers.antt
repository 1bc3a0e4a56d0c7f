use Rattle.std.proofs.Common.{ap, sym, ◌∙◌}
use Rattle.std.proofs.lemmas.Result.{err_from_is_err_and}
use Rattle.std.specs.Arc.{arc_value}
use Rattle.sve_told.specs.Told.{Sight}
use Rattle.sve_plan.specs.Plan.{Give, and_then, ask, each}
use Rattle.sve_plan.proofs.Steps.{begins, goes_on, leaves, rests}
use Rattle.sve_look.specs.Questions.{PortsOf, Reply}
use Rattle.sve_body.specs.Items.{implied, special_instance}
use Rattle.sve_body_instance.proofs.Equations.{special_of}
use Rattle.sve_body_instance.proofs.instancing.special_instance.Goals as goal

pub returns-in_err-ports : goal.returns-in_err-ports
returns-in_err-ports g c =
    let s : Sight Reply _ = record { tells = g.W.Look.tells; keeps = g.W.Look.keeps; halted = g.W.Look.halted; stops = g.W.Look.stops; asked = g.W.Look.asked } in
    let r = err_from_is_err_and c.from_residual.result c.from_residual.ensures.1 in
    leaves s g.met.W.Look.keeps_itself g.met.W.Look.keeps_on c.ask_ports.new.world c.args.fuel.now (ask (PortsOf c.args.spec)) (λ ports. and_then (each (implied g.S.Work.steps) (g.S.Work.steps.connection_tokens ports c.args.one.now c.args.work.now) c.args.work.now) (λ t. Give (g.S.Work.steps.child c.args.spec ports c.args.one.now t))) c.in_err-ports.field-0.0 r.0 c.from_residual.result _ r.1 r.2 (begins s g.met.W.Look.keeps_itself g.met.W.Look.keeps_on c.args.world.now c.args.fuel.now (special_instance g.S.Work.steps c.args.one.now c.args.spec c.args.work.now) c.requires) c.in_err-ports.ensures

pub returns-in_err-implied_all : goal.returns-in_err-implied_all
returns-in_err-implied_all g c =
    let s : Sight Reply _ = record { tells = g.W.Look.tells; keeps = g.W.Look.keeps; halted = g.W.Look.halted; stops = g.W.Look.stops; asked = g.W.Look.asked } in
    let r = err_from_is_err_and c.from_residual-in_err-implied_all.result c.from_residual-in_err-implied_all.ensures.1 in
    leaves s g.met.W.Look.keeps_itself g.met.W.Look.keeps_on c.implied_all.new.world c.args.fuel.now (each (implied g.S.Work.steps) c.as_slice.result.now c.args.work.now) (λ t. Give (g.S.Work.steps.child c.args.spec (arc_value c.in_ok-ports.ports) c.args.one.now t)) c.in_err-implied_all.field-0.0 r.0 c.from_residual-in_err-implied_all.result _ r.1 r.2 (rests s g.met.W.Look.keeps_itself g.met.W.Look.keeps_on (and_then (each (implied g.S.Work.steps) c.as_slice.result.now c.args.work.now) (λ t. Give (g.S.Work.steps.child c.args.spec (arc_value c.in_ok-ports.ports) c.args.one.now t))) (goes_on s g.met.W.Look.keeps_itself g.met.W.Look.keeps_on (ask (PortsOf c.args.spec)) (λ ports. and_then (each (implied g.S.Work.steps) (g.S.Work.steps.connection_tokens ports c.args.one.now c.args.work.now) c.args.work.now) (λ t. Give (g.S.Work.steps.child c.args.spec ports c.args.one.now t))) (begins s g.met.W.Look.keeps_itself g.met.W.Look.keeps_on c.args.world.now c.args.fuel.now (special_instance g.S.Work.steps c.args.one.now c.args.spec c.args.work.now) c.requires) (arc_value c.in_ok-ports.ports) c.in_ok-ports.ensures) (special_of g.S.Work.steps c.args.one.now c.args.spec (arc_value c.in_ok-ports.ports) c.args.work.now c.as_slice.result.now (c.as_slice.ensures.value ∙ c.in_ok-tokens.ensures ∙ ap (λ p. g.S.Work.steps.connection_tokens p c.args.one.now c.args.work.now) (c.items-listed.ensures ∙ c.deref.ensures)))) c.in_err-implied_all.ensures

pub returns : goal.returns
returns g c =
    let s : Sight Reply _ = record { tells = g.W.Look.tells; keeps = g.W.Look.keeps; halted = g.W.Look.halted; stops = g.W.Look.stops; asked = g.W.Look.asked } in
    rests s g.met.W.Look.keeps_itself g.met.W.Look.keeps_on (Give c.child.new.self) (goes_on s g.met.W.Look.keeps_itself g.met.W.Look.keeps_on (each (implied g.S.Work.steps) c.as_slice.result.now c.args.work.now) (λ t. Give (g.S.Work.steps.child c.args.spec (arc_value c.in_ok-ports.ports) c.args.one.now t)) (rests s g.met.W.Look.keeps_itself g.met.W.Look.keeps_on (and_then (each (implied g.S.Work.steps) c.as_slice.result.now c.args.work.now) (λ t. Give (g.S.Work.steps.child c.args.spec (arc_value c.in_ok-ports.ports) c.args.one.now t))) (goes_on s g.met.W.Look.keeps_itself g.met.W.Look.keeps_on (ask (PortsOf c.args.spec)) (λ ports. and_then (each (implied g.S.Work.steps) (g.S.Work.steps.connection_tokens ports c.args.one.now c.args.work.now) c.args.work.now) (λ t. Give (g.S.Work.steps.child c.args.spec ports c.args.one.now t))) (begins s g.met.W.Look.keeps_itself g.met.W.Look.keeps_on c.args.world.now c.args.fuel.now (special_instance g.S.Work.steps c.args.one.now c.args.spec c.args.work.now) c.requires) (arc_value c.in_ok-ports.ports) c.in_ok-ports.ensures) (special_of g.S.Work.steps c.args.one.now c.args.spec (arc_value c.in_ok-ports.ports) c.args.work.now c.as_slice.result.now (c.as_slice.ensures.value ∙ c.in_ok-tokens.ensures ∙ ap (λ p. g.S.Work.steps.connection_tokens p c.args.one.now c.args.work.now) (c.items-listed.ensures ∙ c.deref.ensures)))) c.implied_all.new.work c.in_ok-implied_all.ensures) (ap Give (sym (c.in_ok-child.ensures ∙ ap (λ p. g.S.Work.steps.child c.args.spec p c.args.one.now c.implied_all.new.work) (c.items-listed.ensures ∙ c.deref.ensures))))
