use Rattle.std.proofs.Common.{◌≡◌, take}
use Rattle.sve_spec.proofs.spec.copy_of_values.Given as goal

abbrev pub invariant-values : goal.invariant-values
invariant-values l = l.copies.items ≡ take l.given-index l.values
