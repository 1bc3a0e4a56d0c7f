use Rattle.std.proofs.Common.{◌≡◌, map, take}
use Rattle.sve_packages.specs.Packages.{design_package, imports_of}
use Rattle.sve_packages.proofs.imported.all_imports.Given as goal

abbrev pub invariant-packages : goal.invariant-packages
invariant-packages l = l.all.items ≡ map imports_of (map design_package (take l.each-index l.packages))
