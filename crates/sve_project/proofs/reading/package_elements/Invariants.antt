-- The texts so far, followed by those of the packages that are left, are the texts of all.
use Rattle.std.proofs.Common.{◌≡◌, ◌++◌, drop, map}
use Rattle.std.specs.List.{flat_map}
use Rattle.sve_packages.specs.Packages.{package_text}
use Rattle.sve_project.specs.Projects.{text_of}
use Rattle.sve_project.proofs.reading.package_elements.Given as goal

abbrev pub invariant-packages : goal.invariant-packages
invariant-packages l = map package_text l.elements.items ++ flat_map (text_of l.units) (drop l.place l.index.packages) ≡ flat_map (text_of l.units) l.index.packages
