-- The names are gathered, and then asked for.
use Rattle.std.specs.Prelude.{ℕ, List, [], ◌++◌}
use Rattle.std.proofs.Common.{ap, sym, ◌∙◌}
use Rattle.std.proofs.lemmas.Result.{err_from_is_err_and}
use Rattle.sve_told.specs.Told.{Sight}
use Rattle.sve_scope.specs.declared.what.PortFace.{PortFace}
use Rattle.sve_plan.specs.Plan.{Give, Plan, and_then, each}
use Rattle.sve_plan.proofs.Steps.{begins, goes_on, rests}
use Rattle.sve_look.specs.Questions.{Reply}
use Rattle.sve_design_kinds.specs.declared.kinds.KnownDesign.{KnownDesign}
use Rattle.sve_design_kinds.specs.Beginnings.{Tokens}
use Rattle.sve_design_kinds.specs.Names.{header_names}
use Rattle.sve_design_kinds.specs.Kinds.{with_token}
use Rattle.sve_design_kinds.specs.Faces.{port_faces}
use Rattle.sve_design_kinds.specs.Designs.{Designs, designs_by, designs_named}
use Rattle.sve_design_kinds.proofs.Leaving.{leaves_with}
use Rattle.sve_design_kinds.proofs.designs.designs_named.Goals as goal

pub returns-in_err-add_tokens : goal.returns-in_err-add_tokens
returns-in_err-add_tokens g c =
    let s : Sight Reply _ = record { tells = g.W.Look.tells; keeps = g.W.Look.keeps; halted = g.W.Look.halted; stops = g.W.Look.stops; asked = g.W.Look.asked } in
    let r = err_from_is_err_and c.from_residual-in_err-add_tokens.result c.from_residual-in_err-add_tokens.ensures.1 in
    let h = c.args.header.now in
    let asked : List ℕ → List KnownDesign → Plan Reply (List KnownDesign) = λ tokens known. each (with_token c.args.index.now c.args.words.now) tokens known in
    let next : List KnownDesign → Plan Reply Designs = λ kinds. Give (designs_by c.args.words.now c.args.instantiations.items c.args.own c.args.given.now kinds) in
    let names = c.as_slice-2.ensures.value ∙ c.in_ok-names.ensures ∙ ap (λ tokens. header_names h ++ tokens) c.as_slice.ensures.value in
    leaves_with s g.met.W.Look.keeps_itself g.met.W.Look.keeps_on c.add_tokens.new.world c.args.fuel.now (asked c.as_slice-2.result.now c.new-kinds.result) next c.in_err-add_tokens.field-0.0 r.0 c.from_residual-in_err-add_tokens.result r.1 r.2
    (rests s g.met.W.Look.keeps_itself g.met.W.Look.keeps_on (and_then (asked c.as_slice-2.result.now c.new-kinds.result) next) (begins s g.met.W.Look.keeps_itself g.met.W.Look.keeps_on c.args.world.now c.args.fuel.now (designs_named c.args.index.now c.args.words.now h c.args.instantiations.items c.args.own c.args.given.now) c.requires)
    (ap (λ tokens. and_then (asked tokens []) next) (sym names) ∙ ap (λ known. and_then (asked c.as_slice-2.result.now known) next) (sym c.new-kinds.ensures))) c.in_err-add_tokens.ensures

pub returns : goal.returns
returns g c =
    let s : Sight Reply _ = record { tells = g.W.Look.tells; keeps = g.W.Look.keeps; halted = g.W.Look.halted; stops = g.W.Look.stops; asked = g.W.Look.asked } in
    let h = c.args.header.now in
    let asked : List ℕ → List KnownDesign → Plan Reply (List KnownDesign) = λ tokens known. each (with_token c.args.index.now c.args.words.now) tokens known in
    let next : List KnownDesign → Plan Reply Designs = λ kinds. Give (designs_by c.args.words.now c.args.instantiations.items c.args.own c.args.given.now kinds) in
    let found : Tokens → List PortFace → Designs = λ tokens faces. record { words = c.args.words.now; kinds = c.add_tokens.new.known; instantiations = tokens; own = c.args.own; faces = faces } in
    let names = c.as_slice-2.ensures.value ∙ c.in_ok-names.ensures ∙ ap (λ tokens. header_names h ++ tokens) c.as_slice.ensures.value in
    rests s g.met.W.Look.keeps_itself g.met.W.Look.keeps_on (Give (found c.at.result c.in_ok-faces.faces))
    (goes_on s g.met.W.Look.keeps_itself g.met.W.Look.keeps_on (asked c.as_slice-2.result.now c.new-kinds.result) next
    (rests s g.met.W.Look.keeps_itself g.met.W.Look.keeps_on (and_then (asked c.as_slice-2.result.now c.new-kinds.result) next) (begins s g.met.W.Look.keeps_itself g.met.W.Look.keeps_on c.args.world.now c.args.fuel.now (designs_named c.args.index.now c.args.words.now h c.args.instantiations.items c.args.own c.args.given.now) c.requires)
    (ap (λ tokens. and_then (asked tokens []) next) (sym names) ∙ ap (λ known. and_then (asked c.as_slice-2.result.now known) next) (sym c.new-kinds.ensures))) c.add_tokens.new.known c.in_ok-add_tokens.ensures)
    (ap (λ tokens. Give (found tokens (port_faces c.add_tokens.new.known c.args.given.now))) (sym c.at.ensures) ∙ ap (λ faces. Give (found c.at.result faces)) (sym c.in_ok-faces.ensures))
