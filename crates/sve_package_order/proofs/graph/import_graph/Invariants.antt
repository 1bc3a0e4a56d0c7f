use Rattle.std.proofs.Common.{◌≡◌, take, map}
use Rattle.sve_package_order.proofs.Numbered.{told_places}
use Rattle.sve_package_order.proofs.graph.import_graph.Given as goal

abbrev pub invariant-rows : goal.invariant-rows
invariant-rows l = l.rows.items ≡ map (told_places l.packages) (take l.package-index l.packages)
