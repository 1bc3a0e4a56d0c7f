-- What was added so far, and those that are left, are all of them.
use Rattle.std.proofs.Common.{◌≡◌, ◌++◌, drop, map}
use Rattle.sve_item_names.specs.declared.name.ItemName.TheVariants as is_name
use Rattle.sve_item_names.proofs.declaration.add_headings.Given as goal

abbrev pub invariant-loop-heading : goal.invariant-loop-heading
invariant-loop-heading l = l.found.items ++ map is_name.Declared (drop l.heading-index l.headings) ≡ l.initial.found.items ++ map is_name.Declared l.headings
