use Rattle.std.proofs.Common.{ap, sym}
use Rattle.std.proofs.lemmas.Result.{err_from_is_err_and}
use Rattle.sve_told.specs.Told.{Sight}
use Rattle.sve_plan.specs.Plan.{Give, ask}
use Rattle.sve_plan.proofs.Steps.{begins, goes_on, leaves, rests}
use Rattle.sve_look.specs.Questions.{NetAt, Reply}
use Rattle.sve_body.specs.Items.{implied}
use Rattle.sve_body_item.proofs.Equations.{implied_asks, implied_not}
use Rattle.sve_body_item.proofs.assigning.implied.Goals as goal

pub returns-then-is_declared : goal.returns-then-is_declared
returns-then-is_declared g c =
    let s : Sight Reply _ = record { tells = g.W.Look.tells; keeps = g.W.Look.keeps; halted = g.W.Look.halted; stops = g.W.Look.stops; asked = g.W.Look.asked } in
    rests s g.met.W.Look.keeps_itself g.met.W.Look.keeps_on _ (begins s g.met.W.Look.keeps_itself g.met.W.Look.keeps_on c.args.world.now c.args.fuel.now (implied g.S.Work.steps c.args.token c.args.work.now) c.requires) (implied_not g.S.Work.steps c.args.token c.args.work.now _ c.is_declared.ensures c.if-is_declared.true)

pub returns-in_err-net : goal.returns-in_err-net
returns-in_err-net g c =
    let s : Sight Reply _ = record { tells = g.W.Look.tells; keeps = g.W.Look.keeps; halted = g.W.Look.halted; stops = g.W.Look.stops; asked = g.W.Look.asked } in
    let r = err_from_is_err_and c.from_residual.result c.from_residual.ensures.1 in
    leaves s g.met.W.Look.keeps_itself g.met.W.Look.keeps_on c.ask_net.new.world c.args.fuel.now (ask (NetAt c.file.result.now c.chunk.result c.args.token)) (λ type. Give (g.S.Work.steps.implicit_net c.args.token type c.args.work.now)) c.in_err-net.field-0.0 r.0 c.from_residual.result _ r.1 r.2 (rests s g.met.W.Look.keeps_itself g.met.W.Look.keeps_on _ (begins s g.met.W.Look.keeps_itself g.met.W.Look.keeps_on c.args.world.now c.args.fuel.now (implied g.S.Work.steps c.args.token c.args.work.now) c.requires) (implied_asks g.S.Work.steps c.args.token c.args.work.now _ _ _ c.is_declared.ensures c.if-is_declared.false c.file.ensures c.chunk.ensures)) c.in_err-net.ensures

pub returns : goal.returns
returns g c =
    let s : Sight Reply _ = record { tells = g.W.Look.tells; keeps = g.W.Look.keeps; halted = g.W.Look.halted; stops = g.W.Look.stops; asked = g.W.Look.asked } in
    rests s g.met.W.Look.keeps_itself g.met.W.Look.keeps_on (Give c.implicit_net.new.self) (goes_on s g.met.W.Look.keeps_itself g.met.W.Look.keeps_on (ask (NetAt c.file.result.now c.chunk.result c.args.token)) (λ type. Give (g.S.Work.steps.implicit_net c.args.token type c.args.work.now)) (rests s g.met.W.Look.keeps_itself g.met.W.Look.keeps_on _ (begins s g.met.W.Look.keeps_itself g.met.W.Look.keeps_on c.args.world.now c.args.fuel.now (implied g.S.Work.steps c.args.token c.args.work.now) c.requires) (implied_asks g.S.Work.steps c.args.token c.args.work.now _ _ _ c.is_declared.ensures c.if-is_declared.false c.file.ensures c.chunk.ensures)) c.in_ok-net.net c.in_ok-net.ensures) (ap Give (sym c.in_ok-implicit_net.ensures))
