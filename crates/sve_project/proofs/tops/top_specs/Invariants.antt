-- The specializations so far, followed by those of the tops that are left, are those of all.
use Rattle.std.proofs.Common.{◌≡◌, ◌++◌, drop, map}
use Rattle.sve_project.specs.Tops.{top_spec}
use Rattle.sve_project.proofs.tops.top_specs.Given as goal

abbrev pub invariant-tops : goal.invariant-tops
invariant-tops l = l.specs.items ++ map (top_spec l.project) (drop l.name-index l.names) ≡ map (top_spec l.project) l.names
