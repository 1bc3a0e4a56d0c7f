use Rattle.std.proofs.Common.{◌∙◌, ap, arith, map}
use Rattle.sve_package_order.proofs.Places.{all_taken}
use Rattle.sve_package_order.proofs.Numbered.{told_places, same_graph}
use Rattle.sve_package_order.proofs.graph.import_graph.Goals as goal

pub returns : goal.returns
returns c =
    c.rows.invariant
    ∙ ap (map (told_places c.args.packages.now)) (all_taken c.args.packages.now c.rows.package-index (omega arith))
    ∙ same_graph c.args.packages.now
