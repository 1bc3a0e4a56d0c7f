-- Parameters are paid, then what they cost, and then ports.
use Rattle.std.proofs.Common.{length, refl, ap, sym}
use Rattle.std.proofs.lemmas.Result.{err_from_is_err_and}
use Rattle.sve_told.specs.Told.{Sight}
use Rattle.sve_plan.specs.Plan.{paid}
use Rattle.sve_plan.proofs.Steps.{begins, ends, leaves_spent, pays, rests}
use Rattle.sve_look.specs.Questions.{Reply}
use Rattle.sve_item_names.specs.Declarations.{parameters_of}
use Rattle.sve_body.specs.Items.{header}
use Rattle.sve_body_whole.specs.Ports.{ports_in}
use Rattle.sve_body_whole.proofs.heading.header.Goals as goal

pub returns-in_err-pay_parameters : goal.returns-in_err-pay_parameters
returns-in_err-pay_parameters g c =
    let s : Sight Reply _ = record { tells = g.W.Look.tells; keeps = g.W.Look.keeps; halted = g.W.Look.halted; stops = g.W.Look.stops; asked = g.W.Look.asked } in
    let r = err_from_is_err_and c.from_residual.result c.from_residual.ensures.1 in
    let steps = g.S.Work.steps in
    let h = c.args.header.now in
    let found = steps.header_parameters h (steps.header_imports h c.args.work.now) in
    leaves_spent s g.met.W.Look.keeps_itself g.met.W.Look.keeps_on c.pay_parameters.new.fuel (length (parameters_of h.parameters), tt {0}) (paid found (ports_in steps h)) c.in_err-pay_parameters.field-0.0 r.0 c.from_residual.result _ r.1 r.2
    (begins s g.met.W.Look.keeps_itself g.met.W.Look.keeps_on c.args.world.now c.args.fuel.now (header steps h c.args.work.now) c.requires) (c.in_err-pay_parameters.ensures, tt)

pub returns-in_err-header_parameters : goal.returns-in_err-header_parameters
returns-in_err-header_parameters g c =
    let s : Sight Reply _ = record { tells = g.W.Look.tells; keeps = g.W.Look.keeps; halted = g.W.Look.halted; stops = g.W.Look.stops; asked = g.W.Look.asked } in
    let r = err_from_is_err_and c.from_residual-in_err-header_parameters.result c.from_residual-in_err-header_parameters.ensures.1 in
    let steps = g.S.Work.steps in
    let h = c.args.header.now in
    let next = ports_in steps h in
    let found = steps.header_parameters h c.header_imports.new.self in
    leaves_spent s g.met.W.Look.keeps_itself g.met.W.Look.keeps_on c.header_parameters.new.fuel found (next found.1) c.in_err-header_parameters.field-0.0 r.0 c.from_residual-in_err-header_parameters.result _ r.1 r.2
    (rests s g.met.W.Look.keeps_itself g.met.W.Look.keeps_on (paid found next)
    (pays s g.met.W.Look.keeps_itself g.met.W.Look.keeps_on (length (parameters_of h.parameters), tt {0}) (paid (steps.header_parameters h (steps.header_imports h c.args.work.now)) next) tt
    (begins s g.met.W.Look.keeps_itself g.met.W.Look.keeps_on c.args.world.now c.args.fuel.now (header steps h c.args.work.now) c.requires) (c.in_ok-pay_parameters.ensures, refl))
    (ap (λ t. paid (steps.header_parameters h t) next) (sym c.in_ok-header_imports.ensures))) c.in_err-header_parameters.ensures

pub returns : goal.returns
returns g c =
    let s : Sight Reply _ = record { tells = g.W.Look.tells; keeps = g.W.Look.keeps; halted = g.W.Look.halted; stops = g.W.Look.stops; asked = g.W.Look.asked } in
    let steps = g.S.Work.steps in
    let h = c.args.header.now in
    let next = ports_in steps h in
    let found = steps.header_parameters h c.header_imports.new.self in
    ends s g.met.W.Look.keeps_itself g.met.W.Look.keeps_on c.ports.new.world c.ports.new.fuel (next c.header_parameters.new.self) _
    (rests s g.met.W.Look.keeps_itself g.met.W.Look.keeps_on (next c.header_parameters.new.self)
    (pays s g.met.W.Look.keeps_itself g.met.W.Look.keeps_on found (next found.1) c.header_parameters.new.self
    (rests s g.met.W.Look.keeps_itself g.met.W.Look.keeps_on (paid found next)
    (pays s g.met.W.Look.keeps_itself g.met.W.Look.keeps_on (length (parameters_of h.parameters), tt {0}) (paid (steps.header_parameters h (steps.header_imports h c.args.work.now)) next) tt
    (begins s g.met.W.Look.keeps_itself g.met.W.Look.keeps_on c.args.world.now c.args.fuel.now (header steps h c.args.work.now) c.requires) (c.in_ok-pay_parameters.ensures, refl))
    (ap (λ t. paid (steps.header_parameters h t) next) (sym c.in_ok-header_imports.ensures))) c.in_ok-header_parameters.ensures)
    (ap next (sym c.in_ok-header_parameters.ensures.1))) c.ports.ensures
