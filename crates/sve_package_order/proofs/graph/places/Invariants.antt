-- With the packages that are left the table is that of all.
use Rattle.std.proofs.Common.{◌≡◌, drop}
use Rattle.sve_table.specs.Tables.{table_of, with_items}
use Rattle.sve_package_order.specs.Graph.{numbered, place_name}
use Rattle.sve_package_order.proofs.graph.places.Given as goal

abbrev pub invariant-packages : goal.invariant-packages
invariant-packages l = with_items place_name l.table (numbered l.at (drop l.at l.packages)) ≡ table_of place_name (numbered 0 l.packages)
