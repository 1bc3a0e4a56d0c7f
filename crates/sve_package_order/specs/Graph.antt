-- Packages by their places.
use Rattle.std.specs.Prelude.{ℕ, ◌+◌, List, [], ◌∷◌, map, nat_eq, Option, Some, None, if◌then◌else◌}
use Rattle.std.specs.Cmp.Lexicographic.{pointwise}
use Rattle.std.specs.List.{filter_map}
use Rattle.sve_package_order.specs.declared.package_imports.PackageImports.{PackageImports}
use Rattle.sve_package_order.specs.declared.graph.Place.{Place}

abbrev pub place_name : Place → List ℕ
place_name place = place.name

-- the names with their places, counted from k
abbrev pub numbered : ℕ → List PackageImports → List Place
numbered k [] = []
numbered k (p ∷ ps) = record { name = p.name; at = k } ∷ numbered (k + 1) ps

-- the place of the first of these of a name, counted from k
abbrev pub place_in : List ℕ → ℕ → List PackageImports → Option ℕ
place_in name k [] = None
place_in name k (p ∷ ps) = if pointwise nat_eq name p.name then Some k else place_in name (k + 1) ps

abbrev pub place_of : List PackageImports → List ℕ → Option ℕ
place_of ps name = place_in name 0 ps

-- the places of what a package imports
abbrev pub places_of : List PackageImports → PackageImports → List ℕ
places_of ps p = filter_map (place_of ps) p.imports

abbrev pub graph_of : List PackageImports → List (List ℕ)
graph_of ps = map (places_of ps) ps
