use Rattle.std.proofs.Common.{◌≡◌, take}
use Rattle.sve_imports.proofs.naming.listed.Given as goal

abbrev pub invariant-names : goal.invariant-names
invariant-names l = l.names.items ≡ take l.place l.table
