-- It begins, its text is gone over, and it ends.
use Rattle.sve_facts.specs.declared.facts.Facts.{Facts}
use Rattle.sve_elaboration.specs.State.{Found}
use Rattle.std.proofs.Common.{ap, sym}
use Rattle.std.proofs.lemmas.Result.{err_from_is_err_and}
use Rattle.sve_told.specs.Told.{Sight}
use Rattle.sve_plan.specs.Plan.{Give, Plan, and_then}
use Rattle.sve_plan.proofs.Steps.{begins, goes_on, rests}
use Rattle.sve_look.specs.Questions.{Reply}
use Rattle.sve_body.specs.Body.{body}
use Rattle.sve_elaboration.specs.Ends.{facts_of}
use Rattle.sve_elaboration.specs.Elaborating.{elaborating}
use Rattle.sve_elaborate.specs.Bodies.{body_in}
use Rattle.sve_elaborate.proofs.Bodies.{body_from}
use Rattle.sve_design_kinds.proofs.Leaving.{leaves_with}
use Rattle.sve_elaborate.proofs.within.body_in.Goals as goal

pub returns-in_err-body : goal.returns-in_err-body
returns-in_err-body g c =
    let s : Sight Reply _ = record { tells = g.W.Look.tells; keeps = g.W.Look.keeps; halted = g.W.Look.halted; stops = g.W.Look.stops; asked = g.W.Look.asked } in
    let r = err_from_is_err_and c.from_residual-in_err-body.result c.from_residual-in_err-body.ensures.1 in
    let text = c.args.text in
    let d = c.args.definition.now in
    let inside = body elaborating d.header c.items.result.now c.in_ok-work.work in
    let next : Found → Plan Reply Facts = λ t. Give (facts_of t) in
    leaves_with s g.met.W.Look.keeps_itself g.met.W.Look.keeps_on c.body.new.world c.body.new.fuel inside next c.in_err-body.field-0.0 r.0 c.from_residual-in_err-body.result r.1 r.2
    (rests s g.met.W.Look.keeps_itself g.met.W.Look.keeps_on (and_then inside next) (begins s g.met.W.Look.keeps_itself g.met.W.Look.keeps_on c.args.world.now c.args.fuel.now (body_in c.args.extent text.packages.now text.words.now c.args.designs.now c.args.given.now c.args.contents d) c.requires)
    (body_from c.args.extent text.packages.now text.words.now c.args.designs.now c.args.given.now c.args.contents d c.items.result.now c.in_ok-work.work c.items.ensures c.in_ok-work.ensures)) c.in_err-body.ensures

pub returns : goal.returns
returns g c =
    let s : Sight Reply _ = record { tells = g.W.Look.tells; keeps = g.W.Look.keeps; halted = g.W.Look.halted; stops = g.W.Look.stops; asked = g.W.Look.asked } in
    let text = c.args.text in
    let d = c.args.definition.now in
    let inside = body elaborating d.header c.items.result.now c.in_ok-work.work in
    let next : Found → Plan Reply Facts = λ t. Give (facts_of t) in
    rests s g.met.W.Look.keeps_itself g.met.W.Look.keeps_on (Give c.in_ok-facts.facts)
    (goes_on s g.met.W.Look.keeps_itself g.met.W.Look.keeps_on inside next
    (rests s g.met.W.Look.keeps_itself g.met.W.Look.keeps_on (and_then inside next) (begins s g.met.W.Look.keeps_itself g.met.W.Look.keeps_on c.args.world.now c.args.fuel.now (body_in c.args.extent text.packages.now text.words.now c.args.designs.now c.args.given.now c.args.contents d) c.requires)
    (body_from c.args.extent text.packages.now text.words.now c.args.designs.now c.args.given.now c.args.contents d c.items.result.now c.in_ok-work.work c.items.ensures c.in_ok-work.ensures)) c.body.new.work c.in_ok-body.ensures)
    (ap Give (sym c.in_ok-facts.ensures))
