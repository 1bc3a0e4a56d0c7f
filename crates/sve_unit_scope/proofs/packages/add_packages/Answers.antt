-- One after another.
use Rattle.std.proofs.Common.{◌+◌, drop, sym}
use Rattle.std.proofs.lemmas.Result.{err_from_is_err_and}
use Rattle.sve_told.specs.Told.{Sight}
use Rattle.sve_plan.specs.Plan.{Give, and_then, each}
use Rattle.sve_plan.proofs.Each.{each_end, each_next}
use Rattle.sve_plan.proofs.Steps.{goes_on, leaves, rests}
use Rattle.sve_look.specs.Questions.{Reply}
use Rattle.sve_unit_scope.specs.Packages.{with_package}
use Rattle.sve_unit_scope.proofs.packages.add_packages.Goals as goal

pub names-preserved : goal.names-preserved
names-preserved g c =
    let s : Sight Reply _ = record { tells = g.W.Look.tells; keeps = g.W.Look.keeps; halted = g.W.Look.halted; stops = g.W.Look.stops; asked = g.W.Look.asked } in
    let f = with_package c.args.index.now in
    let one = f c.name-item.result c.names.known in
    let more = each f (drop (c.names.name-index + 1) c.args.names.now) in
    goes_on s g.met.W.Look.keeps_itself g.met.W.Look.keeps_on one more
    (rests s g.met.W.Look.keeps_itself g.met.W.Look.keeps_on (and_then one more) c.names.invariant (each_next f c.args.names.now c.names.name-index c.name-item.result c.name-item.result c.names.known c.names-test.true (sym c.name-item.is))) c.add_package.new.known c.in_ok-add_package.ensures

pub returns-in_err-add_package : goal.returns-in_err-add_package
returns-in_err-add_package g c =
    let s : Sight Reply _ = record { tells = g.W.Look.tells; keeps = g.W.Look.keeps; halted = g.W.Look.halted; stops = g.W.Look.stops; asked = g.W.Look.asked } in
    let r = err_from_is_err_and c.from_residual.result c.from_residual.ensures.1 in
    let f = with_package c.args.index.now in
    let one = f c.name-item.result c.names.known in
    let more = each f (drop (c.names.name-index + 1) c.args.names.now) in
    leaves s g.met.W.Look.keeps_itself g.met.W.Look.keeps_on c.add_package.new.world c.args.fuel.now one more c.in_err-add_package.field-0.0 r.0 c.from_residual.result _ r.1 r.2
    (rests s g.met.W.Look.keeps_itself g.met.W.Look.keeps_on (and_then one more) c.names.invariant (each_next f c.args.names.now c.names.name-index c.name-item.result c.name-item.result c.names.known c.names-test.true (sym c.name-item.is))) c.in_err-add_package.ensures

pub returns : goal.returns
returns g c =
    let s : Sight Reply _ = record { tells = g.W.Look.tells; keeps = g.W.Look.keeps; halted = g.W.Look.halted; stops = g.W.Look.stops; asked = g.W.Look.asked } in
    rests s g.met.W.Look.keeps_itself g.met.W.Look.keeps_on (Give c.names.known) c.names.invariant (each_end (with_package c.args.index.now) c.args.names.now c.names.name-index c.names.known c.names-test.false)
