-- The element is asked for, and what it is added.
use Rattle.std.specs.Prelude.{List, Option}
use Rattle.std.proofs.Common.{ap, sym}
use Rattle.std.proofs.lemmas.Result.{err_from_is_err_and}
use Rattle.sve_tree.specs.declared.element.Element.{Element}
use Rattle.sve_told.specs.Told.{Sight}
use Rattle.sve_plan.specs.Plan.{Give, Plan, ask}
use Rattle.sve_plan.proofs.Steps.{begins, goes_on, leaves, rests}
use Rattle.sve_look.specs.Questions.{ElementOf, Reply, element_in}
use Rattle.sve_design_kinds.specs.declared.kinds.KnownDesign.{KnownDesign}
use Rattle.sve_design_kinds.specs.Kinds.{definition_asked, with_element}
use Rattle.sve_design_kinds.proofs.kinds.add_definition.Goals as goal

pub returns-in_err-element : goal.returns-in_err-element
returns-in_err-element g c =
    let s : Sight Reply _ = record { tells = g.W.Look.tells; keeps = g.W.Look.keeps; halted = g.W.Look.halted; stops = g.W.Look.stops; asked = g.W.Look.asked } in
    let r = err_from_is_err_and c.from_residual.result c.from_residual.ensures.1 in
    let d = c.args.def.now in
    let next : Option Element → Plan Reply (List KnownDesign) = λ e. Give (with_element c.args.known.now c.args.name.now e) in
    leaves s g.met.W.Look.keeps_itself g.met.W.Look.keeps_on c.ask_element.new.world c.args.fuel.now (ask (ElementOf d.file d.chunk)) next c.in_err-element.field-0.0 r.0 c.from_residual.result _ r.1 r.2
    (begins s g.met.W.Look.keeps_itself g.met.W.Look.keeps_on c.args.world.now c.args.fuel.now (definition_asked c.args.name.now d c.args.known.now) c.requires) c.in_err-element.ensures

pub returns : goal.returns
returns g c =
    let s : Sight Reply _ = record { tells = g.W.Look.tells; keeps = g.W.Look.keeps; halted = g.W.Look.halted; stops = g.W.Look.stops; asked = g.W.Look.asked } in
    let d = c.args.def.now in
    let next : Option Element → Plan Reply (List KnownDesign) = λ e. Give (with_element c.args.known.now c.args.name.now e) in
    rests s g.met.W.Look.keeps_itself g.met.W.Look.keeps_on (Give c.add_element.new.known)
    (goes_on s g.met.W.Look.keeps_itself g.met.W.Look.keeps_on (ask (ElementOf d.file d.chunk)) next
    (begins s g.met.W.Look.keeps_itself g.met.W.Look.keeps_on c.args.world.now c.args.fuel.now (definition_asked c.args.name.now d c.args.known.now) c.requires) (element_in c.in_ok-element.element) c.in_ok-element.ensures)
    (ap Give (sym c.in_ok-add_element.ensures))
