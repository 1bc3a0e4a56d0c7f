-- What was added so far, and those that are left, are all of them.
use Rattle.std.proofs.Common.{◌≡◌, ◌++◌, drop, map}
use Rattle.sve_item_names.specs.Declarations.{declarator_heading}
use Rattle.sve_item_names.proofs.declaration.in_declarators.Given as goal

abbrev pub invariant-loop-declarator : goal.invariant-loop-declarator
invariant-loop-declarator l = l.found.items ++ map declarator_heading (drop l.declarator-index l.declarators) ≡ l.initial.found.items ++ map declarator_heading l.declarators
