-- The object answers, or it halts.
use Rattle.std.proofs.Common.{Result, Err}
use Rattle.std.proofs.lemmas.Result.{err_from_is_err_and}
use Rattle.sve_io.specs.declared.halt.Halt.{Halt}
use Rattle.sve_bytes.specs.declared.net_type.NetType.{NetType}
use Rattle.sve_told.specs.Told.{Sight}
use Rattle.sve_plan.proofs.Steps.{answers, asked_in_vain}
use Rattle.sve_look.specs.Questions.{NetAt, Reply}
use Rattle.sve_question.proofs.asking.ask_net.Goals as goal

pub returns-in_err-net : goal.returns-in_err-net
returns-in_err-net g c =
    let s : Sight Reply _ = record { tells = g.W.Look.tells; keeps = g.W.Look.keeps; halted = g.W.Look.halted; stops = g.W.Look.stops; asked = g.W.Look.asked } in
    let r = err_from_is_err_and c.from_residual.result c.from_residual.ensures.1 in
    let e = c.in_err-net.ensures in
    let failed : Result NetType Halt = Err c.in_err-net.field-0.0 in
    asked_in_vain s g.met.W.Look.keeps_itself g.met.W.Look.keeps_on c.args.fuel.now (NetAt c.args.file.now c.args.chunk c.args.token) _ failed c.from_residual.result r.0 r.1 r.2 e.tells e.keeps e.halted e.stopped

pub returns : goal.returns
returns g c =
    let s : Sight Reply _ = record { tells = g.W.Look.tells; keeps = g.W.Look.keeps; halted = g.W.Look.halted; stops = g.W.Look.stops; asked = g.W.Look.asked } in
    let e = c.in_ok-net.ensures in
    answers s g.met.W.Look.keeps_itself g.met.W.Look.keeps_on c.args.fuel.now (NetAt c.args.file.now c.args.chunk c.args.token) _ c.requires e.tells e.keeps e.found e.asked e.not_halted e.not_stopped
