-- The elements in front of it are asked for, and then its own.
use Rattle.std.specs.Prelude.{List, Option}
use Rattle.sve_tree.specs.declared.element.Element.{Element}
use Rattle.sve_facts.specs.declared.facts.Facts.{Facts}
use Rattle.sve_unit_scope.specs.Elements.{ChunkElement}
use Rattle.std.proofs.Common.{ap, sym}
use Rattle.std.proofs.lemmas.Result.{err_from_is_err_and}
use Rattle.std.specs.List.{range_with_len}
use Rattle.sve_told.specs.Told.{Sight}
use Rattle.sve_plan.specs.Plan.{Plan, and_then, ask, each}
use Rattle.sve_plan.proofs.Steps.{begins, ends, goes_on, rests}
use Rattle.sve_look.specs.Questions.{ElementOf, Reply, element_in}
use Rattle.sve_unit_scope.specs.Elements.{element_of}
use Rattle.sve_elaborate.specs.Bodies.{at_definition, of_element}
use Rattle.sve_design_kinds.proofs.Leaving.{leaves_with}
use Rattle.sve_elaborate.proofs.definitions.at_definition.Goals as goal

pub returns-in_err-elements_before : goal.returns-in_err-elements_before
returns-in_err-elements_before g c =
    let s : Sight Reply _ = record { tells = g.W.Look.tells; keeps = g.W.Look.keeps; halted = g.W.Look.halted; stops = g.W.Look.stops; asked = g.W.Look.asked } in
    let r = err_from_is_err_and c.from_residual.result c.from_residual.ensures.1 in
    let d = c.args.def.now in
    let before : List ChunkElement → Plan Reply (List ChunkElement) = λ es. each (element_of d.file) (range_with_len 0 d.chunk) es in
    let own = ask (ElementOf d.file d.chunk) in
    let next : List ChunkElement → Plan Reply Facts = λ es. and_then own (of_element c.args.extent c.args.index.now c.args.spec.now d es) in
    leaves_with s g.met.W.Look.keeps_itself g.met.W.Look.keeps_on c.elements_before.new.world c.args.fuel.now (before c.new-elements.result.items) next c.in_err-elements_before.field-0.0 r.0 c.from_residual.result r.1 r.2
    (rests s g.met.W.Look.keeps_itself g.met.W.Look.keeps_on (and_then (before c.new-elements.result.items) next) (begins s g.met.W.Look.keeps_itself g.met.W.Look.keeps_on c.args.world.now c.args.fuel.now (at_definition c.args.extent c.args.index.now c.args.spec.now d) c.requires)
    (ap (λ es. and_then (before es) next) (sym c.new-elements.ensures.items))) c.in_err-elements_before.ensures

pub returns-in_err-own : goal.returns-in_err-own
returns-in_err-own g c =
    let s : Sight Reply _ = record { tells = g.W.Look.tells; keeps = g.W.Look.keeps; halted = g.W.Look.halted; stops = g.W.Look.stops; asked = g.W.Look.asked } in
    let r = err_from_is_err_and c.from_residual-in_err-own.result c.from_residual-in_err-own.ensures.1 in
    let d = c.args.def.now in
    let before : List ChunkElement → Plan Reply (List ChunkElement) = λ es. each (element_of d.file) (range_with_len 0 d.chunk) es in
    let own = ask (ElementOf d.file d.chunk) in
    let next : List ChunkElement → Plan Reply Facts = λ es. and_then own (of_element c.args.extent c.args.index.now c.args.spec.now d es) in
    leaves_with s g.met.W.Look.keeps_itself g.met.W.Look.keeps_on c.ask_element.new.world c.args.fuel.now own (of_element c.args.extent c.args.index.now c.args.spec.now d c.elements_before.new.elements.items) c.in_err-own.field-0.0 r.0 c.from_residual-in_err-own.result r.1 r.2
    (goes_on s g.met.W.Look.keeps_itself g.met.W.Look.keeps_on (before c.new-elements.result.items) next
    (rests s g.met.W.Look.keeps_itself g.met.W.Look.keeps_on (and_then (before c.new-elements.result.items) next) (begins s g.met.W.Look.keeps_itself g.met.W.Look.keeps_on c.args.world.now c.args.fuel.now (at_definition c.args.extent c.args.index.now c.args.spec.now d) c.requires)
    (ap (λ es. and_then (before es) next) (sym c.new-elements.ensures.items))) c.elements_before.new.elements.items c.in_ok-elements_before.ensures) c.in_err-own.ensures

pub returns : goal.returns
returns g c =
    let s : Sight Reply _ = record { tells = g.W.Look.tells; keeps = g.W.Look.keeps; halted = g.W.Look.halted; stops = g.W.Look.stops; asked = g.W.Look.asked } in
    let d = c.args.def.now in
    let before : List ChunkElement → Plan Reply (List ChunkElement) = λ es. each (element_of d.file) (range_with_len 0 d.chunk) es in
    let own = ask (ElementOf d.file d.chunk) in
    let found : List ChunkElement → Option Element → Plan Reply Facts = λ es. of_element c.args.extent c.args.index.now c.args.spec.now d es in
    let next : List ChunkElement → Plan Reply Facts = λ es. and_then own (found es) in
    ends s g.met.W.Look.keeps_itself g.met.W.Look.keeps_on c.of_element.new.world c.of_element.new.fuel (found c.as_slice.result.now (element_in c.in_ok-own.own)) _
    (rests s g.met.W.Look.keeps_itself g.met.W.Look.keeps_on (found c.as_slice.result.now (element_in c.in_ok-own.own))
    (goes_on s g.met.W.Look.keeps_itself g.met.W.Look.keeps_on own (found c.elements_before.new.elements.items)
    (goes_on s g.met.W.Look.keeps_itself g.met.W.Look.keeps_on (before c.new-elements.result.items) next
    (rests s g.met.W.Look.keeps_itself g.met.W.Look.keeps_on (and_then (before c.new-elements.result.items) next) (begins s g.met.W.Look.keeps_itself g.met.W.Look.keeps_on c.args.world.now c.args.fuel.now (at_definition c.args.extent c.args.index.now c.args.spec.now d) c.requires)
    (ap (λ es. and_then (before es) next) (sym c.new-elements.ensures.items))) c.elements_before.new.elements.items c.in_ok-elements_before.ensures) (element_in c.in_ok-own.own) c.in_ok-own.ensures)
    (ap (λ es. found es (element_in c.in_ok-own.own)) (sym c.as_slice.ensures.value))) c.of_element.ensures
