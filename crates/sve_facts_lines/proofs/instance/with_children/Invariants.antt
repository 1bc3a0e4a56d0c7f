-- The lines of the instances so far.
use Rattle.std.proofs.Common.{◌≡◌, ◌++◌, take, map}
use Rattle.sve_listing.specs.Lists.{on_one_line}
use Rattle.sve_facts_lines.specs.Instances.{child_text}
use Rattle.sve_facts_lines.proofs.instance.with_children.Given as goal

abbrev pub invariant-children : goal.invariant-children
invariant-children l = l.all ≡ l.fn.lines ++ map (λ x. on_one_line (child_text x)) (take l.child-index l.room)
