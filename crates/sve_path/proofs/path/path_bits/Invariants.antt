use Rattle.std.proofs.Common.{◌≡◌}
use Rattle.sve_select.specs.Extents.{extent_judged}
use Rattle.sve_path.specs.Paths.{extents_behind}
use Rattle.sve_path.proofs.path.path_bits.Given as goal

abbrev pub invariant-steps : goal.invariant-steps
invariant-steps g l = let m = g.E.Env.told l.env in
    extents_behind m l.name l.before l.step-iterator.rest.items ≡ extents_behind m l.name (extent_judged l.name.name (m.text l.name.name) (m.ty l.name)) l.fn.steps.items
