-- The lines of the tops so far.
use Rattle.std.proofs.Common.{◌≡◌, take, map}
use Rattle.sve_listing.specs.Lists.{max_listed, top_line}
use Rattle.sve_listing.proofs.tops.tops_lines.Given as goal

abbrev pub invariant-tops : goal.invariant-tops
invariant-tops l = l.lines ≡ map top_line (take l.name-index (take max_listed l.tops))
