-- What the modules and interfaces are that it names is asked, and then the body is found.
use Rattle.std.specs.Prelude.{ℕ, List, Option}
use Rattle.std.proofs.Common.{sym}
use Rattle.std.proofs.lemmas.Result.{err_from_is_err_and}
use Rattle.sve_tree.specs.declared.token_word.Word.{Word}
use Rattle.sve_spec.specs.declared.spec.FaceGiven.{FaceGiven}
use Rattle.sve_scope.specs.declared.interface.InterfaceNames.{InterfaceNames}
use Rattle.sve_facts.specs.declared.facts.Facts.{Facts}
use Rattle.sve_told.specs.Told.{Sight}
use Rattle.sve_plan.specs.Plan.{Plan, and_then}
use Rattle.sve_plan.proofs.Steps.{begins, ends, goes_on, rests}
use Rattle.sve_look.specs.Questions.{Reply}
use Rattle.sve_design_kinds.specs.Designs.{Designs, designs_named}
use Rattle.sve_design_kinds.proofs.Leaving.{leaves_with}
use Rattle.sve_elaborate.specs.Bodies.{in_designs, within}
use Rattle.sve_elaborate.proofs.definitions.in_designs.Goals as goal

pub returns-in_err-designs : goal.returns-in_err-designs
returns-in_err-designs g c =
    let s : Sight Reply _ = record { tells = g.W.Look.tells; keeps = g.W.Look.keeps; halted = g.W.Look.halted; stops = g.W.Look.stops; asked = g.W.Look.asked } in
    let r = err_from_is_err_and c.from_residual-in_err-designs.result c.from_residual-in_err-designs.ensures.1 in
    let own = c.args.own.now in
    let d = c.args.definition.now in
    let tokens = c.in_ok-instantiations.instantiations.items in
    let named : List Word → List ℕ → Option InterfaceNames → List FaceGiven → Plan Reply Designs = λ ws ts names faces. designs_named c.args.index.now ws d.header ts names faces in
    let plan : Plan Reply Designs = named c.as_slice-words.result.now tokens c.in_ok-names.names c.items-faces.result.now in
    let next : Designs → Plan Reply Facts = λ designs. within c.args.extent c.args.packages.now designs c.args.spec.now c.args.def.now c.args.elements.now own d in
    leaves_with s g.met.W.Look.keeps_itself g.met.W.Look.keeps_on c.designs_named.new.world c.args.fuel.now plan next c.in_err-designs.field-0.0 r.0 c.from_residual-in_err-designs.result r.1 r.2
    (rests s g.met.W.Look.keeps_itself g.met.W.Look.keeps_on (and_then plan next) (begins s g.met.W.Look.keeps_itself g.met.W.Look.keeps_on c.args.world.now c.args.fuel.now (in_designs c.args.extent c.args.index.now c.args.packages.now c.args.spec.now c.args.def.now c.args.elements.now own d) c.requires)
    (λ k. and_then (named (sym c.as_slice-words.ensures.value k) (sym c.in_ok-instantiations.ensures k) (sym c.in_ok-names.ensures k) (sym c.items-faces.ensures k)) next)) c.in_err-designs.ensures

pub returns : goal.returns
returns g c =
    let s : Sight Reply _ = record { tells = g.W.Look.tells; keeps = g.W.Look.keeps; halted = g.W.Look.halted; stops = g.W.Look.stops; asked = g.W.Look.asked } in
    let own = c.args.own.now in
    let d = c.args.definition.now in
    let tokens = c.in_ok-instantiations.instantiations.items in
    let named : List Word → List ℕ → Option InterfaceNames → List FaceGiven → Plan Reply Designs = λ ws ts names faces. designs_named c.args.index.now ws d.header ts names faces in
    let plan : Plan Reply Designs = named c.as_slice-words.result.now tokens c.in_ok-names.names c.items-faces.result.now in
    let next : Designs → Plan Reply Facts = λ designs. within c.args.extent c.args.packages.now designs c.args.spec.now c.args.def.now c.args.elements.now own d in
    ends s g.met.W.Look.keeps_itself g.met.W.Look.keeps_on c.within.new.world c.within.new.fuel (next c.in_ok-designs.designs) _
    (goes_on s g.met.W.Look.keeps_itself g.met.W.Look.keeps_on plan next
    (rests s g.met.W.Look.keeps_itself g.met.W.Look.keeps_on (and_then plan next) (begins s g.met.W.Look.keeps_itself g.met.W.Look.keeps_on c.args.world.now c.args.fuel.now (in_designs c.args.extent c.args.index.now c.args.packages.now c.args.spec.now c.args.def.now c.args.elements.now own d) c.requires)
    (λ k. and_then (named (sym c.as_slice-words.ensures.value k) (sym c.in_ok-instantiations.ensures k) (sym c.in_ok-names.ensures k) (sym c.items-faces.ensures k)) next)) c.in_ok-designs.designs c.in_ok-designs.ensures) c.within.ensures
