-- The packages of the elements, and then those of the element itself.
use Rattle.std.specs.Prelude.{ℕ, List}
use Rattle.sve_known.specs.Packages.{Known}
use Rattle.std.proofs.Common.{ap, sym, ◌∙◌}
use Rattle.std.proofs.lemmas.Result.{err_from_is_err_and}
use Rattle.sve_told.specs.Told.{Sight}
use Rattle.sve_plan.specs.Plan.{Plan, and_then, each}
use Rattle.sve_plan.proofs.Steps.{begins, ends, goes_on, leaves, rests}
use Rattle.sve_look.specs.Questions.{Reply}
use Rattle.sve_imports.specs.Naming.{own_words, packages_in}
use Rattle.sve_unit_scope.specs.Packages.{with_packages, with_unit_packages}
use Rattle.sve_unit_scope.proofs.packages.add_packages_named.Goals as goal

pub returns-in_err-add_all_unit_packages : goal.returns-in_err-add_all_unit_packages
returns-in_err-add_all_unit_packages g c =
    let s : Sight Reply _ = record { tells = g.W.Look.tells; keeps = g.W.Look.keeps; halted = g.W.Look.halted; stops = g.W.Look.stops; asked = g.W.Look.asked } in
    let r = err_from_is_err_and c.from_residual.result c.from_residual.ensures.1 in
    let units = each (with_unit_packages c.args.index.now) c.args.all.now c.args.known.now in
    let own = with_packages c.args.index.now (packages_in (own_words c.args.own.now)) in
    leaves s g.met.W.Look.keeps_itself g.met.W.Look.keeps_on c.add_all_unit_packages.new.world c.args.fuel.now units own c.in_err-add_all_unit_packages.field-0.0 r.0 c.from_residual.result _ r.1 r.2
    (begins s g.met.W.Look.keeps_itself g.met.W.Look.keeps_on c.args.world.now c.args.fuel.now (and_then units own) c.requires) c.in_err-add_all_unit_packages.ensures

pub returns : goal.returns
returns g c =
    let s : Sight Reply _ = record { tells = g.W.Look.tells; keeps = g.W.Look.keeps; halted = g.W.Look.halted; stops = g.W.Look.stops; asked = g.W.Look.asked } in
    let units = each (with_unit_packages c.args.index.now) c.args.all.now c.args.known.now in
    let own = with_packages c.args.index.now (packages_in (own_words c.args.own.now)) in
    let named : List (List ℕ) → Plan Reply (List Known) = λ names. with_packages c.args.index.now names c.add_all_unit_packages.new.known in
    ends s g.met.W.Look.keeps_itself g.met.W.Look.keeps_on c.add_packages.new.world c.args.fuel.now (named c.as_slice.result.now) _
    (rests s g.met.W.Look.keeps_itself g.met.W.Look.keeps_on (named c.as_slice.result.now) (goes_on s g.met.W.Look.keeps_itself g.met.W.Look.keeps_on units own (begins s g.met.W.Look.keeps_itself g.met.W.Look.keeps_on c.args.world.now c.args.fuel.now (and_then units own) c.requires) c.add_all_unit_packages.new.known c.in_ok-add_all_unit_packages.ensures)
    (ap named (sym c.in_ok-names.ensures) ∙ ap named (sym c.as_slice.ensures.value))) c.add_packages.ensures
