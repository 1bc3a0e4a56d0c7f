-- What is found, with the places of the names that are left, is the places of all.
use Rattle.std.proofs.Common.{◌≡◌, ◌++◌, drop, option_map}
use Rattle.std.specs.List.{filter_map}
use Rattle.sve_table.specs.Tables.{item_of}
use Rattle.sve_package_order.specs.Graph.{place_name}
use Rattle.sve_package_order.proofs.graph.places_of.Given as goal

abbrev pub invariant-names : goal.invariant-names
invariant-names l =
    l.found.items ++ filter_map (λ name. option_map (λ p. p.at) (item_of place_name name l.table)) (drop l.name-index l.names)
    ≡ filter_map (λ name. option_map (λ p. p.at) (item_of place_name name l.table)) l.names
