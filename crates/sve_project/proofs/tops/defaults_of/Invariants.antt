-- What was given so far, followed by the defaults of the parameters that are left, is what is given to all.
use Rattle.std.proofs.Common.{◌≡◌, ◌++◌, drop}
use Rattle.sve_project.specs.Tops.{defaults_of}
use Rattle.sve_project.proofs.tops.defaults_of.Given as goal

abbrev pub invariant-formals : goal.invariant-formals
invariant-formals l = l.given.items ++ defaults_of (drop l.formal-index l.formals) ≡ defaults_of l.formals
