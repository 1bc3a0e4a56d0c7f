-- The packages so far, followed by those of the elements that are left, are the packages of all.
use Rattle.std.proofs.Common.{◌≡◌, ◌++◌, drop, map}
use Rattle.sve_packages.specs.Packages.{design_package, package_text, packages_named}
use Rattle.sve_packages.proofs.design_package.packages_named.Given as goal

abbrev pub invariant-sources : goal.invariant-sources
invariant-sources l = map design_package l.all.items ++ packages_named (map package_text (drop l.source-index l.sources)) ≡ packages_named (map package_text l.sources)
