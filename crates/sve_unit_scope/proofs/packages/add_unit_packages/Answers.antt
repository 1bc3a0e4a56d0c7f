-- The packages that its items name.
use Rattle.std.specs.Prelude.{ℕ, List}
use Rattle.sve_known.specs.Packages.{Known}
use Rattle.std.proofs.Common.{ap, sym, ◌∙◌}
use Rattle.sve_told.specs.Told.{Sight}
use Rattle.sve_plan.specs.Plan.{Plan}
use Rattle.sve_plan.proofs.Steps.{begins, ends, rests}
use Rattle.sve_look.specs.Questions.{Reply}
use Rattle.sve_imports.specs.Naming.{packages_in, unit_words}
use Rattle.sve_unit_scope.specs.Packages.{with_packages, with_unit_packages}
use Rattle.sve_unit_scope.proofs.packages.add_unit_packages.Goals as goal

pub returns : goal.returns
returns g c =
    let s : Sight Reply _ = record { tells = g.W.Look.tells; keeps = g.W.Look.keeps; halted = g.W.Look.halted; stops = g.W.Look.stops; asked = g.W.Look.asked } in
    let named : List (List ℕ) → Plan Reply (List Known) = λ names. with_packages c.args.index.now names c.args.known.now in
    ends s g.met.W.Look.keeps_itself g.met.W.Look.keeps_on c.add_packages.new.world c.args.fuel.now (named c.as_slice.result.now) _
    (rests s g.met.W.Look.keeps_itself g.met.W.Look.keeps_on (named c.as_slice.result.now) (begins s g.met.W.Look.keeps_itself g.met.W.Look.keeps_on c.args.world.now c.args.fuel.now (with_unit_packages c.args.index.now c.args.one.now c.args.known.now) c.requires)
    (ap (λ e. named (packages_in (unit_words e))) (sym c.element.ensures) ∙ ap named (sym c.in_ok-names.ensures) ∙ ap named (sym c.as_slice.ensures.value))) c.add_packages.ensures
