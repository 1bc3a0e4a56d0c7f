-- What the parameters that are left add is what all add.
use Rattle.std.proofs.Common.{◌≡◌, drop}
use Rattle.std.specs.List.{fold}
use Rattle.sve_param.specs.Places.{no_parameters, with_formal}
use Rattle.sve_param.proofs.numbered.with_formals.Given as goal

abbrev pub invariant-formals : goal.invariant-formals
invariant-formals l = fold (with_formal l.words) l.numbered (drop l.formal-index l.formals) ≡ fold (with_formal l.words) no_parameters l.formals
