-- It is asked for, or not.
use Rattle.std.specs.Prelude.{List}
use Rattle.sve_facts.specs.declared.facts.Facts.{Facts}
use Rattle.sve_known.specs.Packages.{Known}
use Rattle.std.proofs.Common.{ap, sym}
use Rattle.std.proofs.lemmas.Result.{err_from_is_err_and}
use Rattle.std.specs.Arc.{arc_value}
use Rattle.sve_told.specs.Told.{Sight}
use Rattle.sve_plan.specs.Plan.{Give, Plan, and_then, ask}
use Rattle.sve_plan.proofs.Steps.{begins, goes_on, leaves, rests}
use Rattle.sve_look.specs.Questions.{PackageOf, Reply}
use Rattle.sve_unit_scope.specs.Packages.{with_facts, with_package}
use Rattle.sve_unit_scope.proofs.Seeking.{not_sought, sought}
use Rattle.sve_unit_scope.proofs.packages.add_package.Goals as goal

pub returns-then-not-is_sought : goal.returns-then-not-is_sought
returns-then-not-is_sought g c =
    let s : Sight Reply _ = record { tells = g.W.Look.tells; keeps = g.W.Look.keeps; halted = g.W.Look.halted; stops = g.W.Look.stops; asked = g.W.Look.asked } in
    rests s g.met.W.Look.keeps_itself g.met.W.Look.keeps_on (Give c.args.known.now) (begins s g.met.W.Look.keeps_itself g.met.W.Look.keeps_on c.args.world.now c.args.fuel.now (with_package c.args.index.now c.args.name.now c.args.known.now) c.requires)
    (not_sought c.args.index.now c.args.name.now c.args.known.now c.is_sought.result c.is_sought.ensures c.if-not-is_sought.true)

pub returns-in_err-facts : goal.returns-in_err-facts
returns-in_err-facts g c =
    let s : Sight Reply _ = record { tells = g.W.Look.tells; keeps = g.W.Look.keeps; halted = g.W.Look.halted; stops = g.W.Look.stops; asked = g.W.Look.asked } in
    let r = err_from_is_err_and c.from_residual.result c.from_residual.ensures.1 in
    let next : Facts → Plan Reply (List Known) = λ facts. Give (with_facts c.args.known.now c.args.name.now facts) in
    leaves s g.met.W.Look.keeps_itself g.met.W.Look.keeps_on c.ask_package.new.world c.args.fuel.now (ask (PackageOf c.args.name.now)) next c.in_err-facts.field-0.0 r.0 c.from_residual.result _ r.1 r.2
    (rests s g.met.W.Look.keeps_itself g.met.W.Look.keeps_on (and_then (ask (PackageOf c.args.name.now)) next) (begins s g.met.W.Look.keeps_itself g.met.W.Look.keeps_on c.args.world.now c.args.fuel.now (with_package c.args.index.now c.args.name.now c.args.known.now) c.requires)
    (sought c.args.index.now c.args.name.now c.args.known.now c.is_sought.result c.is_sought.ensures c.if-not-is_sought.false)) c.in_err-facts.ensures

pub returns : goal.returns
returns g c =
    let s : Sight Reply _ = record { tells = g.W.Look.tells; keeps = g.W.Look.keeps; halted = g.W.Look.halted; stops = g.W.Look.stops; asked = g.W.Look.asked } in
    let next : Facts → Plan Reply (List Known) = λ facts. Give (with_facts c.args.known.now c.args.name.now facts) in
    rests s g.met.W.Look.keeps_itself g.met.W.Look.keeps_on (Give c.add_facts.new.known)
    (goes_on s g.met.W.Look.keeps_itself g.met.W.Look.keeps_on (ask (PackageOf c.args.name.now)) next
    (rests s g.met.W.Look.keeps_itself g.met.W.Look.keeps_on (and_then (ask (PackageOf c.args.name.now)) next) (begins s g.met.W.Look.keeps_itself g.met.W.Look.keeps_on c.args.world.now c.args.fuel.now (with_package c.args.index.now c.args.name.now c.args.known.now) c.requires)
    (sought c.args.index.now c.args.name.now c.args.known.now c.is_sought.result c.is_sought.ensures c.if-not-is_sought.false)) (arc_value c.in_ok-facts.facts) c.in_ok-facts.ensures)
    (ap Give (sym c.in_ok-add_facts.ensures))
