-- With the names that are left, those so far are the names of all.
use Rattle.std.proofs.Common.{◌≡◌, drop}
use Rattle.sve_table.specs.Tables.{with_items}
use Rattle.sve_imports.specs.Naming.{itself, package_names, packages_in}
use Rattle.sve_imports.proofs.naming.packages_in.Given as goal

abbrev pub invariant-words : goal.invariant-words
invariant-words l = with_items itself l.names (package_names (drop l.place l.words)) ≡ packages_in l.words
