-- The index is asked for, and the definition is sought in it.
use Rattle.sve_index.specs.declared.whole.Index.{Index}
use Rattle.sve_facts.specs.declared.facts.Facts.{Facts}
use Rattle.std.proofs.Common.{ap, sym}
use Rattle.std.proofs.lemmas.Result.{err_from_is_err_and}
use Rattle.std.specs.Arc.{arc_value}
use Rattle.sve_told.specs.Told.{Sight}
use Rattle.sve_table.specs.Tables.{item_of}
use Rattle.sve_index.specs.Defs.{def_name}
use Rattle.sve_plan.specs.Plan.{Plan, ask}
use Rattle.sve_plan.proofs.Steps.{begins, ends, goes_on, rests}
use Rattle.sve_look.specs.Questions.{IndexOf, Reply}
use Rattle.sve_elaborate.specs.Bodies.{at_place, elaborated_to}
use Rattle.sve_design_kinds.proofs.Leaving.{leaves_with}
use Rattle.sve_elaborate.proofs.definitions.elaborated_to.Goals as goal

pub returns-in_err-index : goal.returns-in_err-index
unfolding elaborated_to
returns-in_err-index g c =
    let s : Sight Reply _ = record { tells = g.W.Look.tells; keeps = g.W.Look.keeps; halted = g.W.Look.halted; stops = g.W.Look.stops; asked = g.W.Look.asked } in
    let r = err_from_is_err_and c.from_residual.result c.from_residual.ensures.1 in
    let next : Index → Plan Reply Facts = λ index. at_place c.args.extent index c.args.spec.now (item_of def_name c.args.spec.now.definition index.definitions) in
    leaves_with s g.met.W.Look.keeps_itself g.met.W.Look.keeps_on c.ask_index.new.world c.args.fuel.now (ask IndexOf) next c.in_err-index.field-0.0 r.0 c.from_residual.result r.1 r.2
    (begins s g.met.W.Look.keeps_itself g.met.W.Look.keeps_on c.args.world.now c.args.fuel.now (elaborated_to c.args.extent c.args.spec.now) c.requires) c.in_err-index.ensures

pub returns : goal.returns
unfolding elaborated_to
returns g c =
    let s : Sight Reply _ = record { tells = g.W.Look.tells; keeps = g.W.Look.keeps; halted = g.W.Look.halted; stops = g.W.Look.stops; asked = g.W.Look.asked } in
    let next : Index → Plan Reply Facts = λ index. at_place c.args.extent index c.args.spec.now (item_of def_name c.args.spec.now.definition index.definitions) in
    ends s g.met.W.Look.keeps_itself g.met.W.Look.keeps_on c.at_place.new.world c.at_place.new.fuel (next c.deref.result.now) _
    (rests s g.met.W.Look.keeps_itself g.met.W.Look.keeps_on (next c.deref.result.now)
    (goes_on s g.met.W.Look.keeps_itself g.met.W.Look.keeps_on (ask IndexOf) next (begins s g.met.W.Look.keeps_itself g.met.W.Look.keeps_on c.args.world.now c.args.fuel.now (elaborated_to c.args.extent c.args.spec.now) c.requires) (arc_value c.in_ok-index.index) c.in_ok-index.ensures)
    (ap next (sym c.deref.ensures))) c.at_place.ensures
