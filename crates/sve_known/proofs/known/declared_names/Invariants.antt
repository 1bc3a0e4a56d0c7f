-- With the names that are left, those so far are the names of all.
use Rattle.std.proofs.Common.{◌≡◌, drop, map}
use Rattle.sve_table.specs.Tables.{with_items}
use Rattle.sve_scope.specs.Declarations.{declared_name}
use Rattle.sve_scope.specs.Scopes.{itself}
use Rattle.sve_known.specs.Packages.{names_in}
use Rattle.sve_known.proofs.known.declared_names.Given as goal

abbrev pub invariant-declared : goal.invariant-declared
invariant-declared l = with_items itself l.names (map declared_name (drop l.place l.scope.declared)) ≡ names_in l.scope.declared
