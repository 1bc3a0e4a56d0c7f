-- What was added so far, and those that are left, are all of them.
use Rattle.std.proofs.Common.{◌≡◌, ◌++◌, drop, map}
use Rattle.sve_heading.specs.Types.{name_heading}
use Rattle.sve_item_names.proofs.declaration.in_names.Given as goal

abbrev pub invariant-loop-name : goal.invariant-loop-name
invariant-loop-name l = l.found.items ++ map name_heading (drop l.name-index l.names) ≡ l.initial.found.items ++ map name_heading l.names
