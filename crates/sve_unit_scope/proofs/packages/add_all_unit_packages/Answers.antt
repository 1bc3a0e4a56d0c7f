-- One after another.
use Rattle.std.proofs.Common.{◌+◌, drop, sym}
use Rattle.std.proofs.lemmas.Result.{err_from_is_err_and}
use Rattle.sve_told.specs.Told.{Sight}
use Rattle.sve_plan.specs.Plan.{Give, and_then, each}
use Rattle.sve_plan.proofs.Each.{each_end, each_next}
use Rattle.sve_plan.proofs.Steps.{goes_on, leaves, rests}
use Rattle.sve_look.specs.Questions.{Reply}
use Rattle.sve_unit_scope.specs.Packages.{with_unit_packages}
use Rattle.sve_unit_scope.proofs.packages.add_all_unit_packages.Goals as goal

pub all-preserved : goal.all-preserved
all-preserved g c =
    let s : Sight Reply _ = record { tells = g.W.Look.tells; keeps = g.W.Look.keeps; halted = g.W.Look.halted; stops = g.W.Look.stops; asked = g.W.Look.asked } in
    let f = with_unit_packages c.args.index.now in
    let one = f c.one-item.result c.all.known in
    let more = each f (drop (c.all.one-index + 1) c.args.all.now) in
    goes_on s g.met.W.Look.keeps_itself g.met.W.Look.keeps_on one more
    (rests s g.met.W.Look.keeps_itself g.met.W.Look.keeps_on (and_then one more) c.all.invariant (each_next f c.args.all.now c.all.one-index c.one-item.result c.one-item.result c.all.known c.all-test.true (sym c.one-item.is))) c.add_unit_packages.new.known c.in_ok-add_unit_packages.ensures

pub returns-in_err-add_unit_packages : goal.returns-in_err-add_unit_packages
returns-in_err-add_unit_packages g c =
    let s : Sight Reply _ = record { tells = g.W.Look.tells; keeps = g.W.Look.keeps; halted = g.W.Look.halted; stops = g.W.Look.stops; asked = g.W.Look.asked } in
    let r = err_from_is_err_and c.from_residual.result c.from_residual.ensures.1 in
    let f = with_unit_packages c.args.index.now in
    let one = f c.one-item.result c.all.known in
    let more = each f (drop (c.all.one-index + 1) c.args.all.now) in
    leaves s g.met.W.Look.keeps_itself g.met.W.Look.keeps_on c.add_unit_packages.new.world c.args.fuel.now one more c.in_err-add_unit_packages.field-0.0 r.0 c.from_residual.result _ r.1 r.2
    (rests s g.met.W.Look.keeps_itself g.met.W.Look.keeps_on (and_then one more) c.all.invariant (each_next f c.args.all.now c.all.one-index c.one-item.result c.one-item.result c.all.known c.all-test.true (sym c.one-item.is))) c.in_err-add_unit_packages.ensures

pub returns : goal.returns
returns g c =
    let s : Sight Reply _ = record { tells = g.W.Look.tells; keeps = g.W.Look.keeps; halted = g.W.Look.halted; stops = g.W.Look.stops; asked = g.W.Look.asked } in
    rests s g.met.W.Look.keeps_itself g.met.W.Look.keeps_on (Give c.all.known) c.all.invariant (each_end (with_unit_packages c.args.index.now) c.args.all.now c.all.one-index c.all.known c.all-test.false)
