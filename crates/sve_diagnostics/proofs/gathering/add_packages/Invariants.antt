-- What was added so far, and what there is to say of the packages that are left, is all of it.
use Rattle.std.proofs.Common.{◌≡◌, ◌++◌, drop}
use Rattle.std.specs.List.{flat_map}
use Rattle.sve_diagnostics.specs.Diagnostics.{package_diags}
use Rattle.sve_diagnostics.proofs.gathering.add_packages.Given as goal

abbrev pub invariant-packages : goal.invariant-packages
invariant-packages l = l.diags.items ++ flat_map (package_diags l.units) (drop l.place l.packages) ≡ l.initial.diags.items ++ flat_map (package_diags l.units) l.packages
