-- The lines of the instances so far.
use Rattle.std.proofs.Common.{◌≡◌, take, map}
use Rattle.sve_listing.specs.Lists.{max_listed, on_one_line}
use Rattle.sve_tree_lines.specs.Tree.{visit_text}
use Rattle.sve_tree_lines.proofs.lines.tree_lines.Given as goal

abbrev pub invariant-visits : goal.invariant-visits
invariant-visits l = l.lines ≡ map (λ v. on_one_line (visit_text v)) (take l.visit-index (take max_listed l.visits))
