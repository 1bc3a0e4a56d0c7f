-- Ports are paid, and then what they cost.
use Rattle.std.proofs.Common.{length, refl, ap, sym}
use Rattle.std.proofs.lemmas.Result.{err_from_is_err_and}
use Rattle.sve_told.specs.Told.{Sight}
use Rattle.sve_plan.specs.Plan.{Give}
use Rattle.sve_plan.proofs.Steps.{begins, leaves_spent, pays, rests}
use Rattle.sve_look.specs.Questions.{Reply}
use Rattle.sve_item_names.specs.Declarations.{ports_of}
use Rattle.sve_body.specs.Items.{done}
use Rattle.sve_body_whole.specs.Ports.{ports_in}
use Rattle.sve_body_whole.proofs.heading.ports.Goals as goal

pub returns-in_err-pay_ports : goal.returns-in_err-pay_ports
returns-in_err-pay_ports g c =
    let s : Sight Reply _ = record { tells = g.W.Look.tells; keeps = g.W.Look.keeps; halted = g.W.Look.halted; stops = g.W.Look.stops; asked = g.W.Look.asked } in
    let r = err_from_is_err_and c.from_residual.result c.from_residual.ensures.1 in
    let found = g.S.Work.steps.header_ports c.args.header.now c.args.work.now in
    let count = length (ports_of c.args.header.now.ports) in
    leaves_spent s g.met.W.Look.keeps_itself g.met.W.Look.keeps_on c.pay_ports.new.fuel (count, tt {0}) (done found) c.in_err-pay_ports.field-0.0 r.0 c.from_residual.result _ r.1 r.2
    (begins s g.met.W.Look.keeps_itself g.met.W.Look.keeps_on c.args.world.now c.args.fuel.now (ports_in g.S.Work.steps c.args.header.now c.args.work.now) c.requires) (c.in_err-pay_ports.ensures, tt)

pub returns-in_err-header_ports : goal.returns-in_err-header_ports
returns-in_err-header_ports g c =
    let s : Sight Reply _ = record { tells = g.W.Look.tells; keeps = g.W.Look.keeps; halted = g.W.Look.halted; stops = g.W.Look.stops; asked = g.W.Look.asked } in
    let r = err_from_is_err_and c.from_residual-in_err-header_ports.result c.from_residual-in_err-header_ports.ensures.1 in
    let found = g.S.Work.steps.header_ports c.args.header.now c.args.work.now in
    let count = length (ports_of c.args.header.now.ports) in
    leaves_spent s g.met.W.Look.keeps_itself g.met.W.Look.keeps_on c.header_ports.new.fuel found (Give found.1) c.in_err-header_ports.field-0.0 r.0 c.from_residual-in_err-header_ports.result _ r.1 r.2
    (pays s g.met.W.Look.keeps_itself g.met.W.Look.keeps_on (count, tt {0}) (done found) tt
    (begins s g.met.W.Look.keeps_itself g.met.W.Look.keeps_on c.args.world.now c.args.fuel.now (ports_in g.S.Work.steps c.args.header.now c.args.work.now) c.requires) (c.in_ok-pay_ports.ensures, refl)) c.in_err-header_ports.ensures

pub returns : goal.returns
returns g c =
    let s : Sight Reply _ = record { tells = g.W.Look.tells; keeps = g.W.Look.keeps; halted = g.W.Look.halted; stops = g.W.Look.stops; asked = g.W.Look.asked } in
    let found = g.S.Work.steps.header_ports c.args.header.now c.args.work.now in
    let count = length (ports_of c.args.header.now.ports) in
    rests s g.met.W.Look.keeps_itself g.met.W.Look.keeps_on (Give c.header_ports.new.self)
    (pays s g.met.W.Look.keeps_itself g.met.W.Look.keeps_on found (Give found.1) c.header_ports.new.self
    (pays s g.met.W.Look.keeps_itself g.met.W.Look.keeps_on (count, tt {0}) (done found) tt
    (begins s g.met.W.Look.keeps_itself g.met.W.Look.keeps_on c.args.world.now c.args.fuel.now (ports_in g.S.Work.steps c.args.header.now c.args.work.now) c.requires) (c.in_ok-pay_ports.ensures, refl)) c.in_ok-header_ports.ensures)
    (ap Give (sym c.in_ok-header_ports.ensures.1))
