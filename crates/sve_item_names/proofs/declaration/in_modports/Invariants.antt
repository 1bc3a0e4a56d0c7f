-- What was added so far, and those that are left, are all of them.
use Rattle.std.proofs.Common.{◌≡◌, ◌++◌, drop, map}
use Rattle.sve_item_names.specs.Declarations.{modport_heading}
use Rattle.sve_item_names.proofs.declaration.in_modports.Given as goal

abbrev pub invariant-loop-modport : goal.invariant-loop-modport
invariant-loop-modport l = l.found.items ++ map modport_heading (drop l.modport-index l.modports) ≡ l.initial.found.items ++ map modport_heading l.modports
