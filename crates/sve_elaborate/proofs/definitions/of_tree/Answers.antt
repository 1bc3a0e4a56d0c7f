-- The packages are asked for, and then the body is found.
use Rattle.std.specs.Prelude.{List}
use Rattle.sve_facts.specs.declared.facts.Facts.{Facts}
use Rattle.sve_known.specs.Packages.{Known}
use Rattle.std.proofs.Common.{ap, sym}
use Rattle.std.proofs.lemmas.Result.{err_from_is_err_and}
use Rattle.sve_told.specs.Told.{Sight}
use Rattle.sve_plan.specs.Plan.{Plan, and_then, each}
use Rattle.sve_plan.proofs.Steps.{begins, ends, goes_on, rests}
use Rattle.sve_look.specs.Questions.{Reply}
use Rattle.sve_imports.specs.Naming.{own_words, packages_in}
use Rattle.sve_tree.specs.Elements.{element_definition}
use Rattle.sve_unit_scope.specs.Packages.{with_packages, with_unit_packages}
use Rattle.sve_elaborate.specs.Bodies.{of_definition, of_tree}
use Rattle.sve_design_kinds.proofs.Leaving.{leaves_with}
use Rattle.sve_elaborate.proofs.definitions.of_tree.Goals as goal

pub returns-in_err-add_packages_named : goal.returns-in_err-add_packages_named
returns-in_err-add_packages_named g c =
    let s : Sight Reply _ = record { tells = g.W.Look.tells; keeps = g.W.Look.keeps; halted = g.W.Look.halted; stops = g.W.Look.stops; asked = g.W.Look.asked } in
    let r = err_from_is_err_and c.from_residual.result c.from_residual.ensures.1 in
    let named : List Known → Plan Reply (List Known) = λ known. and_then (each (with_unit_packages c.args.index.now) c.args.elements.now known) (with_packages c.args.index.now (packages_in (own_words c.args.own.now))) in
    let next : List Known → Plan Reply Facts = λ packages. of_definition c.args.extent c.args.index.now packages c.args.spec.now c.args.def.now c.args.elements.now c.args.own.now (element_definition c.args.own.now) in
    leaves_with s g.met.W.Look.keeps_itself g.met.W.Look.keeps_on c.add_packages_named.new.world c.args.fuel.now (named c.new-packages.result) next c.in_err-add_packages_named.field-0.0 r.0 c.from_residual.result r.1 r.2
    (rests s g.met.W.Look.keeps_itself g.met.W.Look.keeps_on (and_then (named c.new-packages.result) next) (begins s g.met.W.Look.keeps_itself g.met.W.Look.keeps_on c.args.world.now c.args.fuel.now (of_tree c.args.extent c.args.index.now c.args.spec.now c.args.def.now c.args.elements.now c.args.own.now) c.requires)
    (ap (λ known. and_then (named known) next) (sym c.new-packages.ensures))) c.in_err-add_packages_named.ensures

pub returns : goal.returns
returns g c =
    let s : Sight Reply _ = record { tells = g.W.Look.tells; keeps = g.W.Look.keeps; halted = g.W.Look.halted; stops = g.W.Look.stops; asked = g.W.Look.asked } in
    let named : List Known → Plan Reply (List Known) = λ known. and_then (each (with_unit_packages c.args.index.now) c.args.elements.now known) (with_packages c.args.index.now (packages_in (own_words c.args.own.now))) in
    let next : List Known → Plan Reply Facts = λ packages. of_definition c.args.extent c.args.index.now packages c.args.spec.now c.args.def.now c.args.elements.now c.args.own.now (element_definition c.args.own.now) in
    ends s g.met.W.Look.keeps_itself g.met.W.Look.keeps_on c.of_definition.new.world c.of_definition.new.fuel (next c.add_packages_named.new.known) _
    (goes_on s g.met.W.Look.keeps_itself g.met.W.Look.keeps_on (named c.new-packages.result) next
    (rests s g.met.W.Look.keeps_itself g.met.W.Look.keeps_on (and_then (named c.new-packages.result) next) (begins s g.met.W.Look.keeps_itself g.met.W.Look.keeps_on c.args.world.now c.args.fuel.now (of_tree c.args.extent c.args.index.now c.args.spec.now c.args.def.now c.args.elements.now c.args.own.now) c.requires)
    (ap (λ known. and_then (named known) next) (sym c.new-packages.ensures))) c.add_packages_named.new.known c.in_ok-add_packages_named.ensures) c.of_definition.ensures
