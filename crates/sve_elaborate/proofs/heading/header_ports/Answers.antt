-- What its header comes to, and its ports.
use Rattle.std.proofs.Common.{List, ap, sym}
use Rattle.std.proofs.lemmas.Result.{err_from_is_err_and}
use Rattle.sve_facts.specs.declared.facts.Facts.{Facts}
use Rattle.sve_facts.specs.declared.facts.Port.{Port}
use Rattle.sve_told.specs.Told.{Sight}
use Rattle.sve_plan.specs.Plan.{Give, Plan}
use Rattle.sve_plan.proofs.Steps.{begins, goes_on, rests}
use Rattle.sve_look.specs.Questions.{Reply}
use Rattle.sve_elaborate.specs.declared.extent.Extent.TheVariants as is_extent
use Rattle.sve_elaborate.specs.Bodies.{elaborated_to, header_ports, ports_of}
use Rattle.sve_design_kinds.proofs.Leaving.{leaves_with}
use Rattle.sve_elaborate.proofs.heading.header_ports.Goals as goal

pub returns-in_err-facts : goal.returns-in_err-facts
unfolding header_ports
returns-in_err-facts g c =
    let s : Sight Reply _ = record { tells = g.W.Look.tells; keeps = g.W.Look.keeps; halted = g.W.Look.halted; stops = g.W.Look.stops; asked = g.W.Look.asked } in
    let r = err_from_is_err_and c.from_residual.result c.from_residual.ensures.1 in
    let next : Facts → Plan Reply (List Port) = λ facts. Give (ports_of facts) in
    leaves_with s g.met.W.Look.keeps_itself g.met.W.Look.keeps_on c.elaborated_to.new.world c.elaborated_to.new.fuel (elaborated_to is_extent.Header c.args.spec.now) next c.in_err-facts.field-0.0 r.0 c.from_residual.result r.1 r.2
    (begins s g.met.W.Look.keeps_itself g.met.W.Look.keeps_on c.args.world.now c.args.fuel.now (header_ports c.args.spec.now) c.requires) c.in_err-facts.ensures

pub returns : goal.returns
unfolding header_ports
returns g c =
    let s : Sight Reply _ = record { tells = g.W.Look.tells; keeps = g.W.Look.keeps; halted = g.W.Look.halted; stops = g.W.Look.stops; asked = g.W.Look.asked } in
    let next : Facts → Plan Reply (List Port) = λ facts. Give (ports_of facts) in
    rests s g.met.W.Look.keeps_itself g.met.W.Look.keeps_on (Give c.ports_of.result)
    (goes_on s g.met.W.Look.keeps_itself g.met.W.Look.keeps_on (elaborated_to is_extent.Header c.args.spec.now) next (begins s g.met.W.Look.keeps_itself g.met.W.Look.keeps_on c.args.world.now c.args.fuel.now (header_ports c.args.spec.now) c.requires) c.in_ok-facts.facts c.in_ok-facts.ensures)
    (ap Give (sym c.ports_of.ensures))
