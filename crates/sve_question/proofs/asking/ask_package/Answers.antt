-- The object answers, or it halts.
use Rattle.std.proofs.Common.{ap, Result, Err}
use Rattle.std.proofs.lemmas.Result.{err_from_is_err_and}
use Rattle.std.specs.Global.{Global}
use Rattle.std.specs.declared.sync.Arc.{Arc}
use Rattle.sve_io.specs.declared.halt.Halt.{Halt}
use Rattle.sve_facts.specs.declared.facts.Facts.{Facts}
use Rattle.sve_told.specs.Told.{Sight}
use Rattle.sve_plan.proofs.Steps.{answers, asked_in_vain}
use Rattle.sve_look.specs.Questions.{PackageOf, Reply}
use Rattle.sve_question.specs.Answered.{shared_in}
use Rattle.sve_question.proofs.asking.ask_package.Goals as goal

pub returns-in_err-package : goal.returns-in_err-package
returns-in_err-package g c =
    let s : Sight Reply _ = record { tells = g.W.Look.tells; keeps = g.W.Look.keeps; halted = g.W.Look.halted; stops = g.W.Look.stops; asked = g.W.Look.asked } in
    let r = err_from_is_err_and c.from_residual.result c.from_residual.ensures.1 in
    let e = c.in_err-package.ensures in
    let failed : Result (Arc Facts Global) Halt = Err c.in_err-package.field-0.0 in
    asked_in_vain s g.met.W.Look.keeps_itself g.met.W.Look.keeps_on c.args.fuel.now (PackageOf c.args.name.now) _ failed (shared_in c.from_residual.result) r.0 (ap shared_in r.1) r.2 e.tells e.keeps e.halted e.stopped

pub returns : goal.returns
returns g c =
    let s : Sight Reply _ = record { tells = g.W.Look.tells; keeps = g.W.Look.keeps; halted = g.W.Look.halted; stops = g.W.Look.stops; asked = g.W.Look.asked } in
    let e = c.in_ok-package.ensures in
    answers s g.met.W.Look.keeps_itself g.met.W.Look.keeps_on c.args.fuel.now (PackageOf c.args.name.now) _ c.requires e.tells e.keeps e.found e.asked e.not_halted e.not_stopped
